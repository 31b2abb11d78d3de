use Rattle.std.proofs.Common.{◌-◌, pos, get_or, w64}
use mir.ValLaws.{to_z-of_z}
use Rattle.matching.specs.Certificate.{dual_of}
use Rattle.certificate.specs.Chains.{chain}
use Rattle.certificate.proofs.SignedLaws.{near_fits}
use Rattle.certificate.proofs.SharedLaws.{shared_start, shared_next, shared_group, shared_fits, sum_near}
use Rattle.certificate.proofs.chains.Chains.common_duals.Goals as goal

pub loop-i-init : goal.loop-i-init
loop-i-init c =
    let t = c.args.self.now.table in
    rw (c.row-x.ensures, c.row-y.ensures) (shared_start _ _ _ _ _ t.few_nodes t.climbing c.requires.near c.requires.first c.requires.second)

pub overflow_add-sum : goal.overflow_add-sum
unfolding dual_of
overflow_add-sum c =
    let t = c.args.self.now.table in
    let g = shared_group _ _ _ _ _ t.few_nodes t.climbing c.requires.near c.requires.first c.requires.second _ _ _ c.loop-i.invariant c.loop-i-test.true
    c.if-j-eq0.false in
    let d = to_z-of_z w64 (get_or c.args.duals.now (get_or (chain c.args.self.now.parents.now c.args.self.now.nodes c.args.a) (c.loop-i.i - 1) 0) (pos 0))
    (near_fits _ (c.requires.near.is_small _ g)) in
    rw (c.row-x.ensures, d)
    (shared_fits _ _ _ _ _ t.few_nodes t.climbing c.requires.near c.requires.first c.requires.second _ _ _ c.loop-i.invariant c.loop-i-test.true
    c.if-j-eq0.false)

pub loop-i-preserved : goal.loop-i-preserved
unfolding dual_of
loop-i-preserved c =
    let t = c.args.self.now.table in
    let g = shared_group _ _ _ _ _ t.few_nodes t.climbing c.requires.near c.requires.first c.requires.second _ _ _ c.loop-i.invariant c.loop-i-test.true
    c.if-j-eq0.false in
    let d = to_z-of_z w64 (get_or c.args.duals.now (get_or (chain c.args.self.now.parents.now c.args.self.now.nodes c.args.a) (c.loop-i.i - 1) 0) (pos 0))
    (near_fits _ (c.requires.near.is_small _ g)) in
    let f = shared_fits _ _ _ _ _ t.few_nodes t.climbing c.requires.near c.requires.first c.requires.second _ _ _ c.loop-i.invariant c.loop-i-test.true
    c.if-j-eq0.false in
    rw (c.row-x.ensures, d, to_z-of_z w64 _ f)
    (shared_next _ _ _ _ _ t.few_nodes t.climbing c.requires.near c.requires.first c.requires.second _ _ _ c.loop-i.invariant c.loop-i-test.true
    c.if-j-eq0.false
    (rw (c.row-x.ensures, c.row-y.ensures) at c.if-g-y.false))

pub returns-then-j-eq0-clause-near : goal.returns-then-j-eq0-clause-near
returns-then-j-eq0-clause-near c =
    let t = c.args.self.now.table in
    sum_near _ _ _ _ _ t.few_nodes t.climbing c.requires.near c.requires.first c.requires.second _ _ _ c.loop-i.invariant

pub returns-then-g-y-clause-near : goal.returns-then-g-y-clause-near
returns-then-g-y-clause-near c =
    let t = c.args.self.now.table in
    sum_near _ _ _ _ _ t.few_nodes t.climbing c.requires.near c.requires.first c.requires.second _ _ _ c.loop-i.invariant

pub returns-clause-near : goal.returns-clause-near
returns-clause-near c =
    let t = c.args.self.now.table in
    sum_near _ _ _ _ _ t.few_nodes t.climbing c.requires.near c.requires.first c.requires.second _ _ _ c.loop-i.invariant
