use Rattle.records.proofs.Finished.{finished}
use Rattle.records.proofs.whole.read_site.Goals as goal

pub returns : goal.returns
returns c =
    let a = c.args in
    let r = c.read_lists-site in
    let k = c.edge_count-k in
    let room = r.ensures.room in
    finished a.file.now a.first.now a.second.now a.weight.now r.result r.new.first r.new.second r.new.weight r.ensures.said k.result k.ensures
    room.0 room.1 room.2 r.auto.first r.auto.second r.auto.weight c.clear_from.ensures c.clear_from-2.ensures c.clear_from-3.ensures
