-- What people must believe of a plan: graphs and matchings, what optimal means, and the conditions of a certificate.
pub mod Graph
pub mod Matching
pub mod Certificate
pub mod Tests
