-- The graph that the edges of a call are, and the certificate that a trial reads.
use Rattle.matching.specs.Graph.{Graph}
use Rattle.matching.specs.Certificate.{Certificate}
use Rattle.certificate.specs.Lists.{lent, certificate_of}
use Rattle.certificate.specs.declared.edges.Edges.{Edges}
use Rattle.certificate.specs.declared.trial.Trial.{Trial}

abbrev pub graph : Edges → Graph
graph e = lent e.nodes e.first.now e.second.now e.weight.now

abbrev pub certificate : Trial → Certificate
certificate t = certificate_of t.mates.now t.duals.now t.chains.parents.now
