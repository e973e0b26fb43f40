-- Lists of entries that lie in rooms of one list.
use Rattle.std.specs.Prelude.{◌≡◌, ◌≢◌, ℕ, ◌+◌, ◌≤◌, ◌⊎◌, List, [], ◌∷◌, length, take, drop, slice_index_or}
use Rattle.kernel.specs.declared.watches.watch.Watch.{Watch}
use Rattle.kernel.specs.declared.watches.entry_lists.Head.{Head}
use Rattle.kernel.specs.Watching.{At}

-- a list with its room, which begins at a place: its entries are the first ones of the room
pub record EntryList : Type 0 where
  pub from : ℕ
  pub len : ℕ
  pub room : List Watch

abbrev pub entries_of : EntryList → List Watch
entries_of l = take l.len l.room

-- the list at a place among others
abbrev pub nth_list : List EntryList → ℕ → EntryList
nth_list ls n = slice_index_or ls n record { from = 0; len = 0; room = [] }

-- the list of a head, with room for r entries
abbrev pub in_room : List Watch → Head → ℕ → EntryList
in_room es h r = record { from = h.from; len = h.len; room = take r (drop h.from es) }

-- the lists of heads, with these rooms
abbrev pub in_rooms : List Watch → List Head → List ℕ → List EntryList
in_rooms es [] rs = []
in_rooms es (h ∷ hs) [] = []
in_rooms es (h ∷ hs) (r ∷ rs) = in_room es h r ∷ in_rooms es hs rs

-- each list is within its room and each room within so many places, and no two rooms overlap
pub record AreApart (hs : List Head) (rs : List ℕ) (size : ℕ) : Type 0 where
  pub as_many : length hs ≡ length rs
  pub within : (i : ℕ) (h : Head) (r : ℕ) → At hs i h → At rs i r → (h.len ≤ r) × (h.from + r ≤ size)
  pub apart : (i j : ℕ) (h k : Head) (r s : ℕ) → At hs i h → At rs i r → At hs j k → At rs j s → i ≢ j → (h.from + r ≤ k.from) ⊎ (k.from + s ≤ h.from)
