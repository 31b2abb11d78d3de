-- Site files: what their bytes mean, and the code's states and answers as the definition's.
pub mod Site
pub mod View
pub mod WholeView
