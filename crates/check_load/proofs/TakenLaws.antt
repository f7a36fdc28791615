-- One more member in the sets of what is loaded.
use Rattle.std.proofs.Common.{◌≡◌, ℕ, ◌==◌, ◌&&◌, ◌||◌, Bool, true, false, cond, refl, ◌∙◌}
use Rattle.std.specs.HashSet.{Updates}
use Rattle.check_load.specs.Taken.{has_item, has_member}
use Rattle.check_load.specs.declared.taken_members.Taken.{Taken}

pub or_of : (t old : Bool) → cond t true old ≡ (t || old)
or_of true old = refl
or_of false old = refl

pub member_added : (old new : Taken) (item offset : ℕ) → Updates (λ a b. a.0 == b.0 && a.1 == b.1) old.members new.members (item, offset) true → (i k : ℕ) →
    has_member new i k ≡ (item == i && offset == k || has_member old i k)
unfolding has_member
member_added old new item offset updates i k = updates.0 (i, k) ∙ or_of (item == i && offset == k) (has_member old i k)

pub item_added : (old new : Taken) (item : ℕ) → Updates (λ a b. a == b) old.items new.items item true → (i : ℕ) → has_item new i ≡ (item == i || has_item old i)
unfolding has_item
item_added old new item updates i = updates.0 i ∙ or_of (item == i) (has_item old i)
