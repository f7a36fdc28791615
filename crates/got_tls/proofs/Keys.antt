-- Slots compare as the requests that they are for, and their places among slots are those of the requests.
use Rattle.std.proofs.Common.{◌≡◌, ℕ, Bool, true, false, not, cond, ◌&&◌, ◌||◌, ◌+◌, nat_lt, Some, None, length, sym, List, [], ◌∷◌, ◌++◌, Option, refl, ap, ◌∙◌}
use Rattle.std.specs.Prelude.{position}
use Rattle.std.specs.List.{list_any, position_or_len}
use Rattle.std.proofs.lemmas.List.{length-map, map-append}
use Rattle.elf_model.specs.Link.Slots.{same_kind, same_request, same_target}
use Rattle.indexmap.specs.IndexSet.{insert_key}
use Rattle.got_tls.specs.Views.{kind_view, owner_view, slot_view, slot_views}
use Rattle.got_tls.specs.contracts.slot.ContentPartialEq.TheImpl as content_impl
use Rattle.got_tls.specs.contracts.slot.OwnerPartialEq.TheImpl as owner_impl
use Rattle.got_tls.specs.contracts.slot.SlotPartialEq.TheImpl as slot_impl
use Rattle.got_tls.specs.declared.slot.Content.{Content}
use Rattle.got_tls.specs.declared.slot.Content.TheVariants as content
use Rattle.got_tls.specs.declared.slot.Owner.{Owner}
use Rattle.got_tls.specs.declared.slot.Owner.TheVariants as owner
use Rattle.got_tls.specs.declared.slot.Slot.{Slot}

abbrev pub slot_eq : Slot → Slot → Bool
slot_eq a b = slot_impl.eq-value.it a b

content_same : (a b : Content) → content_impl.eq-value.it a b ≡ same_kind (kind_view a) (kind_view b)
content_same content.Value content.Value = refl
content_same content.Value content.Thread = refl
content_same content.Thread content.Value = refl
content_same content.Thread content.Thread = refl

owner_same : (a b : Owner) → owner_impl.eq-value.it a b ≡ same_target (owner_view a) (owner_view b)
owner_same (owner.Name n) (owner.Name m) = refl
owner_same (owner.Name n) (owner.Local o j) = refl
owner_same (owner.Local o j) (owner.Name n) = refl
owner_same (owner.Local o j) (owner.Local p k) = refl

pub slot_same : (a b : Slot) → slot_eq a b ≡ same_request (slot_view a) (slot_view b)
slot_same a b =
    ap (λ (c : Bool). c && owner_impl.eq-value.it a.owner b.owner) (content_same a.content b.content)
    ∙ ap (λ (o : Bool). same_kind (kind_view a.content) (kind_view b.content) && o) (owner_same a.owner b.owner)

-- a slot is among slots where its request is among theirs
there_same : (k : Slot) (ks : List Slot) → list_any (slot_eq k) ks ≡ list_any (same_request (slot_view k)) (slot_views ks)
there_same k [] = refl
there_same k (s ∷ ks) =
    ap (λ (b : Bool). b || list_any (slot_eq k) ks) (slot_same k s)
    ∙ ap (λ (b : Bool). same_request (slot_view k) (slot_view s) || b) (there_same k ks)

pub inserted : (ks : List Slot) (k : Slot) → slot_views (insert_key slot_eq ks k) ≡ insert_key same_request (slot_views ks) (slot_view k)
inserted ks k = ap (λ (b : Bool). slot_views (cond b ks (ks ++ k ∷ []))) (there_same k ks) ∙ by (list_any (same_request (slot_view k)) (slot_views ks))
  where
    by : (b : Bool) → slot_views (cond b ks (ks ++ k ∷ [])) ≡ cond b (slot_views ks) (slot_views ks ++ slot_view k ∷ [])
    by true = refl
    by false = map-append slot_view ks (k ∷ [])

-- and stands where its request does
first_same : (k : Slot) (ks : List Slot) → position_or_len (slot_eq k) ks ≡ position_or_len (same_request (slot_view k)) (slot_views ks)
first_same k [] = refl
first_same k (s ∷ ks) =
    ap (λ (b : Bool). cond (not b) (1 + position_or_len (slot_eq k) ks) 0) (slot_same k s)
    ∙ ap (λ (n : ℕ). cond (not (same_request (slot_view k) (slot_view s))) (1 + n) 0) (first_same k ks)

pub position_same : (k : Slot) (ks : List Slot) → position (slot_eq k) ks ≡ position (same_request (slot_view k)) (slot_views ks)
position_same k ks =
    ap (λ (n : ℕ). cond {A = Option ℕ} (nat_lt n (length ks)) (Some n) None) (first_same k ks)
    ∙ ap (λ (l : ℕ). cond {A = Option ℕ} (nat_lt (position_or_len (same_request (slot_view k)) (slot_views ks)) l) (Some (position_or_len (same_request (slot_view k)) (slot_views ks))) None)
    (sym (length-map ks slot_view))
