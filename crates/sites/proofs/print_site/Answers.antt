use Rattle.std.proofs.Common.{rules, ◌≡◌, length, replicate}
use Rattle.sites.specs.Answered.{answered}
use Rattle.sites.proofs.ReadLaws.{put_all}
use Rattle.sites.proofs.print_site.Goals as goal

pub returns-clause-out_after : goal.returns-clause-out_after
returns-clause-out_after c =
    let f : c.fill.new.self ≡ replicate (length c.args.out.now) 0 = search rules in
    let all = put_all (length c.args.out.now) (answered c.args.file.now) (rw f at c.answer_file-done.ensures.text.0) in
    search (rules, all.0)

pub returns-clause-size : goal.returns-clause-size
returns-clause-size c =
    let f : c.fill.new.self ≡ replicate (length c.args.out.now) 0 = search rules in
    (put_all (length c.args.out.now) (answered c.args.file.now) (rw f at c.answer_file-done.ensures.text.0)).1
