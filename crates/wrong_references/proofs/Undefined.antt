-- Undefined names that are told: each once, where its flaw is among the flaws, and of which symbols the names are told.
use Rattle.std.proofs.Common.{◌≡◌, ◌∙◌, ◌⊎◌, inl, inr, ℕ, zero, suc, Bool, true, false, cond, List, [], ◌∷◌, ◌++◌, Option, None, Some, ap, length, refl, set, sym}
use Rattle.std.specs.Prelude.{option_map, unwrap_or}
use Rattle.std.specs.List.{slice_get}
use Rattle.std.specs.Option.{option_or}
use Rattle.std.specs.Str.{bytes_eq}
use Rattle.std.proofs.lemmas.Option.{none-some, same_Some}
use Rattle.std.proofs.lemmas.Slice.Eq.{bytes_eq-Decides}
use Rattle.elf_model.specs.Inputs.ObjectFile.{symbol_name}
use Rattle.elf_model.specs.Link.Loading.{LoadedObject}
use Rattle.elf_model.specs.declared.references.SymbolRef.{SymbolRef}
use Rattle.symbols.proofs.NameRows.{name_itself}
use Rattle.symbols.specs.Rows.{Rows, offered, taken}
use Rattle.symbols.specs.declared.row.Row.{Row}
use Rattle.wrong_references.specs.References.{Told, candidate_at, counted_at, first_in, told_by, with_first, with_name}
use Rattle.wrong_references.specs.Seen.{AreSeen}
use Rattle.wrong_references.specs.declared.flaw.ReferenceFlaw.{ReferenceFlaw}

-- a name that is told is counted at its flaw, one that isn't is a flaw
pub with_told : (name : List ℕ) (f : ReferenceFlaw) (t : Told) (i : ℕ) → t.firsts name ≡ Some i → record t { flaws = counted_at i t.flaws } ≡ with_name name f t
with_told name f t i is = ap (λ (o : Option ℕ). with_first o name f t) (sym is)

with_untold : (name : List ℕ) (f : ReferenceFlaw) (t : Told) → t.firsts name ≡ None → with_first None name f t ≡ with_name name f t
with_untold name f t is = ap (λ (o : Option ℕ). with_first o name f t) (sym is)

-- a table has the name that it was offered, and those that it had
offered_first : (name : List ℕ) (i : ℕ) (rows : Rows) (n : List ℕ) → first_in (rows name) ≡ None → first_in (offered name (candidate_at i) rows n) ≡ cond (bytes_eq name n) (Some i) (first_in (rows n))
offered_first name i rows n new = by (bytes_eq name n)
  where
    weak : (o : Option Row) → first_in o ≡ None → first_in (Some (taken (candidate_at i) o)) ≡ Some i
    weak None e = refl
    weak (Some row) e = at row.weak e
      where
        at : (w : Option SymbolRef) → option_map (λ (s : SymbolRef). s.symbol) w ≡ None → option_map (λ (s : SymbolRef). s.symbol) (option_or w (Some (candidate_at i).symbol)) ≡ Some i
        at None h = refl
        at (Some s) h = absurd (none-some s.symbol (sym h))

    by : (b : Bool) → first_in (cond b (Some (taken (candidate_at i) (rows name))) (rows n)) ≡ cond b (Some i) (first_in (rows n))
    by true = weak (rows name) new
    by false = refl

pub told_more :
    (name : List ℕ) (f : ReferenceFlaw) (fs gs : List ReferenceFlaw) (rows next : Rows) → first_in (rows name) ≡ None → next ≡ offered name (candidate_at (length fs)) rows →
    gs ≡ fs ++ f ∷ [] → told_by gs next ≡ with_name name f (told_by fs rows)
told_more name f fs gs rows next new offer pushed =
    (λ j. told_by (pushed j) (offer j))
    ∙ ((λ j. record { flaws = fs ++ f ∷ []; firsts = λ n. offered_first name (length fs) rows n new j }) ∙ with_untold name f (told_by fs rows) new)

-- the names that were told stay so, and the one is
stays : (name : List ℕ) (f : ReferenceFlaw) (t : Told) (n : List ℕ) (i : ℕ) → t.firsts n ≡ Some i → (with_name name f t).firsts n ≡ Some i
stays name f t n i is = by (t.firsts name) refl
  where
    other : (b : Bool) → bytes_eq name n ≡ b → t.firsts name ≡ None → cond b (Some (length t.flaws)) (t.firsts n) ≡ Some i
    other true e none = absurd (none-some i (sym none ∙ (ap t.firsts ((bytes_eq-Decides name n).0 e) ∙ is)))
    other false e none = is

    by : (o : Option ℕ) → t.firsts name ≡ o → (with_first o name f t).firsts n ≡ Some i
    by None none = other (bytes_eq name n) refl none
    by (Some j) there = is

pub comes : (name : List ℕ) (f : ReferenceFlaw) (t : Told) → t.firsts name ≡ None → (with_name name f t).firsts name ≡ Some (length t.flaws)
comes name f t none = sym (ap (λ (u : Told). u.firsts name) (with_untold name f t none)) ∙ ap {A = Bool} (λ b. cond b (Some (length t.flaws)) (t.firsts name)) (name_itself name)

module _ (o : LoadedObject) (seen : List (Option ℕ)) (t u : Told) where
  abbrev name_at : ℕ → List ℕ
  name_at j = unwrap_or (symbol_name o.bytes j) []

  pub still_seen : (j : ℕ) (f : ReferenceFlaw) → u ≡ with_name (name_at j) f t → AreSeen o seen t → AreSeen o seen u
  still_seen j f is were = record { each = λ k i there. ap (λ (x : Told). x.firsts (name_at k)) is ∙ stays (name_at j) f t (name_at k) i (were.each k i there) }

  -- one symbol more
  pub seen_more : (j i : ℕ) (f : ReferenceFlaw) → u ≡ with_name (name_at j) f t → u.firsts (name_at j) ≡ Some i → AreSeen o seen t → AreSeen o (set seen j (Some i)) u
  seen_more j i f is first were = record { each = λ k m there. by k m (at seen k j m there) }
    where
      at : (bs : List (Option ℕ)) (k j m : ℕ) → slice_get (set bs j (Some i)) k ≡ Some (Some m) → ((k ≡ j) × (i ≡ m)) ⊎ (slice_get bs k ≡ Some (Some m))
      at [] k j m there = absurd (none-some (Some m) there)
      at (b ∷ bs) zero zero m there = inl (refl, same_Some i m (same_Some (Some i) (Some m) there))
      at (b ∷ bs) zero (suc j) m there = inr there
      at (b ∷ bs) (suc k) zero m there = inr there
      at (b ∷ bs) (suc k) (suc j) m there = elim (at bs k j m there) as (λ _. ((suc k ≡ suc j) × (i ≡ m)) ⊎ (slice_get bs k ≡ Some (Some m))) [ inl e ↦ inl (ap suc e.0, e.1) | inr h ↦ inr h ]

      by : (k m : ℕ) → ((k ≡ j) × (i ≡ m)) ⊎ (slice_get seen k ≡ Some (Some m)) → u.firsts (name_at k) ≡ Some m
      by k m (inl same) = ap (λ (n : ℕ). u.firsts (name_at n)) same.0 ∙ (first ∙ ap Some same.1)
      by k m (inr there) = ap (λ (x : Told). x.firsts (name_at k)) is ∙ stays (name_at j) f t (name_at k) m (were.each k m there)
