-- What a routine leaves as it was, whether it answers or faults: the lists that it may not change. A row is so many of the places in its pool, and a
-- free number is taken from the end of the places that hold them. Definitions only.
use Rattle.std.specs.Prelude.{◌≡◌, Bool, true, false}
use Rattle.state.specs.Parts.{Trees, Labels, Pairs, Parts}

-- ---- of the forest

abbrev pub SameChildren : (old new : Trees) → Type 0
SameChildren a b = (b.lists.children ≡ a.lists.children) × (b.kids ≡ a.kids) × (b.counts ≡ a.counts)

abbrev pub SameRingEnds : (old new : Trees) → Type 0
SameRingEnds a b = (b.lists.ring_ends ≡ a.lists.ring_ends) × (b.links ≡ a.links) × (b.link_counts ≡ a.link_counts)

abbrev pub SameFree : (old new : Trees) → Type 0
SameFree a b = (b.lists.free ≡ a.lists.free) × (b.free_places ≡ a.free_places)

abbrev pub ButTops : (old new : Trees) → Type 0
ButTops a b = (b.lists.parents ≡ a.lists.parents) × (b.lists.bases ≡ a.lists.bases) × SameChildren a b × SameRingEnds a b × SameFree a b

abbrev pub ButParents : (old new : Trees) → Type 0
ButParents a b = (b.lists.tops ≡ a.lists.tops) × (b.lists.bases ≡ a.lists.bases) × SameChildren a b × SameRingEnds a b × SameFree a b

abbrev pub ButBases : (old new : Trees) → Type 0
ButBases a b = (b.lists.tops ≡ a.lists.tops) × (b.lists.parents ≡ a.lists.parents) × SameChildren a b × SameRingEnds a b × SameFree a b

abbrev pub ButChildren : (old new : Trees) → Type 0
ButChildren a b = (b.lists.tops ≡ a.lists.tops) × (b.lists.parents ≡ a.lists.parents) × (b.lists.bases ≡ a.lists.bases) × SameRingEnds a b × SameFree a b

abbrev pub ButRingEnds : (old new : Trees) → Type 0
ButRingEnds a b = (b.lists.tops ≡ a.lists.tops) × (b.lists.parents ≡ a.lists.parents) × (b.lists.bases ≡ a.lists.bases) × SameChildren a b × SameFree a b

abbrev pub ButFree : (old new : Trees) → Type 0
ButFree a b = (b.lists.tops ≡ a.lists.tops) × (b.lists.parents ≡ a.lists.parents) × (b.lists.bases ≡ a.lists.bases) × SameChildren a b × SameRingEnds a b

-- ---- of the labelling

abbrev pub SameBestLists : (old new : Labels) → Type 0
SameBestLists a b = (b.lists.best_lists ≡ a.lists.best_lists) × (b.candidates ≡ a.candidates)

abbrev pub ButLabels : (old new : Labels) → Type 0
ButLabels a b = (b.lists.label_ends ≡ a.lists.label_ends) × (b.lists.best ≡ a.lists.best) × SameBestLists a b × (b.lists.allowed ≡ a.lists.allowed) × (b.lists.queue ≡ a.lists.queue)

abbrev pub ButLabelEnds : (old new : Labels) → Type 0
ButLabelEnds a b = (b.lists.labels ≡ a.lists.labels) × (b.lists.best ≡ a.lists.best) × SameBestLists a b × (b.lists.allowed ≡ a.lists.allowed) × (b.lists.queue ≡ a.lists.queue)

abbrev pub ButBest : (old new : Labels) → Type 0
ButBest a b = (b.lists.labels ≡ a.lists.labels) × (b.lists.label_ends ≡ a.lists.label_ends) × SameBestLists a b × (b.lists.allowed ≡ a.lists.allowed) × (b.lists.queue ≡ a.lists.queue)

abbrev pub ButBestLists : (old new : Labels) → Type 0
ButBestLists a b = (b.lists.labels ≡ a.lists.labels) × (b.lists.label_ends ≡ a.lists.label_ends) × (b.lists.best ≡ a.lists.best) × (b.lists.allowed ≡ a.lists.allowed) × (b.lists.queue ≡ a.lists.queue)

abbrev pub ButAllowed : (old new : Labels) → Type 0
ButAllowed a b = (b.lists.labels ≡ a.lists.labels) × (b.lists.label_ends ≡ a.lists.label_ends) × (b.lists.best ≡ a.lists.best) × SameBestLists a b × (b.lists.queue ≡ a.lists.queue)

abbrev pub ButQueue : (old new : Labels) → Type 0
ButQueue a b = (b.lists.labels ≡ a.lists.labels) × (b.lists.label_ends ≡ a.lists.label_ends) × (b.lists.best ≡ a.lists.best) × SameBestLists a b × (b.lists.allowed ≡ a.lists.allowed)

-- labels and label ends
abbrev pub ButReached : (old new : Labels) → Type 0
ButReached a b = (b.lists.best ≡ a.lists.best) × SameBestLists a b × (b.lists.allowed ≡ a.lists.allowed) × (b.lists.queue ≡ a.lists.queue)

-- and best edges
abbrev pub ButMarked : (old new : Labels) → Type 0
ButMarked a b = SameBestLists a b × (b.lists.allowed ≡ a.lists.allowed) × (b.lists.queue ≡ a.lists.queue)

-- and the queue
abbrev pub ButLabelled : (old new : Labels) → Type 0
ButLabelled a b = SameBestLists a b × (b.lists.allowed ≡ a.lists.allowed)

-- the allowed edges and the queue
abbrev pub ButFollowed : (old new : Labels) → Type 0
ButFollowed a b = (b.lists.labels ≡ a.lists.labels) × (b.lists.label_ends ≡ a.lists.label_ends) × (b.lists.best ≡ a.lists.best) × SameBestLists a b

-- best edges and candidates
abbrev pub ButGathered : (old new : Labels) → Type 0
ButGathered a b = (b.lists.labels ≡ a.lists.labels) × (b.lists.label_ends ≡ a.lists.label_ends) × (b.lists.allowed ≡ a.lists.allowed) × (b.lists.queue ≡ a.lists.queue)

-- ---- of the pairing

abbrev pub ButMates : (old new : Pairs) → Type 0
ButMates a b = b.lists.duals ≡ a.lists.duals

abbrev pub ButDuals : (old new : Pairs) → Type 0
ButDuals a b = b.lists.mates ≡ a.lists.mates

-- ---- of all lists

-- all but the forest, but the labelling, but the pairing
abbrev pub InForest : (old new : Parts) → Type 0
InForest a b = (b.labels ≡ a.labels) × (b.pairing ≡ a.pairing)

abbrev pub InLabels : (old new : Parts) → Type 0
InLabels a b = (b.forest ≡ a.forest) × (b.pairing ≡ a.pairing)

abbrev pub InPairing : (old new : Parts) → Type 0
InPairing a b = (b.forest ≡ a.forest) × (b.labels ≡ a.labels)

-- the rest of the labels, where nodes and groups may be labelled anew and edges allowed
abbrev pub Relabelled : (old new : Parts) → Type 0
Relabelled a b = InLabels a b × SameBestLists a.labels b.labels

-- where a group is turned: how many children each has stays
abbrev pub Turned : (old new : Parts) → Type 0
Turned a b =
    (b.labels ≡ a.labels)
    × ButMates a.pairing b.pairing
    × (b.forest.lists.tops ≡ a.forest.lists.tops)
    × (b.forest.lists.parents ≡ a.forest.lists.parents)
    × SameFree a.forest b.forest
    × (b.forest.counts ≡ a.forest.counts)
    × (b.forest.link_counts ≡ a.forest.link_counts)

-- where a new group gets its ring
abbrev pub Ringed : (old new : Parts) → Type 0
Ringed a b = InForest a b × (b.forest.lists.tops ≡ a.forest.lists.tops) × SameFree a.forest b.forest

-- its label and dual
abbrev pub Settled : (old new : Parts) → Type 0
Settled a b = (b.forest ≡ a.forest) × ButReached a.labels b.labels × ButDuals a.pairing b.pairing

-- and its nodes
abbrev pub TakenIn : (old new : Parts) → Type 0
TakenIn a b = ButTops a.forest b.forest × ButQueue a.labels b.labels × (b.pairing ≡ a.pairing)

-- in all of that
abbrev pub Added : (old new : Parts) → Type 0
Added a b = ButDuals a.pairing b.pairing × (b.labels.lists.allowed ≡ a.labels.lists.allowed) × (b.forest.free_places ≡ a.forest.free_places)

-- where a group is taken apart
abbrev pub TakenApart : (old new : Parts) → Type 0
TakenApart a b =
    (b.pairing ≡ a.pairing)
    × SameBestLists a.labels b.labels
    × (b.forest.kids ≡ a.forest.kids)
    × (b.forest.links ≡ a.forest.links)

-- at the end of a stage
abbrev pub Closed : (old new : Parts) → Type 0
Closed a b = TakenApart a b × (b.labels.lists.allowed ≡ a.labels.lists.allowed) × (b.labels.lists.queue ≡ a.labels.lists.queue)

abbrev pub Expanded : (last : Bool) → (old new : Parts) → Type 0
Expanded true a b = Closed a b
Expanded false a b = TakenApart a b

-- where the duals are adjusted
abbrev pub Adjusted : (old new : Parts) → Type 0
Adjusted a b =
    ButDuals a.pairing b.pairing
    × SameBestLists a.labels b.labels
    × (b.forest.kids ≡ a.forest.kids)
    × (b.forest.links ≡ a.forest.links)
