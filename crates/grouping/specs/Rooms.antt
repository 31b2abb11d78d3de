-- How much the lists hold that are lent for the adding of groups. Definitions only.
use Rattle.std.specs.Prelude.{◌≡◌, ℕ, ◌*◌}
use Rattle.grouping.specs.declared.room.Room.{Room}

pub record RoomFits (n : ℕ) (r : Room) : Type 0 where
  pub ring : r.ring.room ≡ 2 * n
  pub other : r.other.room ≡ 2 * n
  pub links : r.links.nodes ≡ n
  pub nodes : r.nodes.room ≡ 2 * n
