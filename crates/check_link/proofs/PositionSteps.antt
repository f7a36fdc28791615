-- One position more in a table of positions of slots.
use Rattle.std.proofs.Common.{◌≡◌, ℕ, ◌==◌, ◌&&◌, Bool, true, false, cond, List, [], Option, Some, None, get_or, refl, sym, ◌∙◌, ap, subst}
use Rattle.std.specs.Prelude.{IfSome, slice_get}
use Rattle.std.specs.BTreeMap.{BTreeMap}
use Rattle.std.specs.List.{position}
use Rattle.std.specs.Option.{option_or}
use Rattle.std.specs.Str.{bytes_eq}
use Rattle.std.proofs.lemmas.Bool.{and_parts, eq-eqb, eqb-true, false≢true}
use Rattle.std.proofs.lemmas.Option.{none-some, same_Some}
use Rattle.std.proofs.lemmas.List.Quantifiers.{position-Some}
use Rattle.std.proofs.lemmas.Slice.Eq.{bytes_eq-Decides}
use Rattle.elf_model.proofs.SameRequests.{requests_equal, same_itself}
use Rattle.elf_model.specs.Link.Loading.{LoadedObject}
use Rattle.elf_model.specs.Image.MapRecord.{OfLocal, OfName, SlotRow, TargetRow}
use Rattle.elf_model.specs.Link.Slots.{Request, same_kind, same_request, same_target}
use Rattle.elf_model.specs.declared.link_map.SlotKind.{SlotKind}
use Rattle.elf_model.specs.declared.link_map.SlotKind.TheVariants as slot
use Rattle.check_load.specs.NameNumbers.{IsNumberOf}
use Rattle.check_load.specs.Numbered.{name_at}
use Rattle.check_link.specs.Chosen.{position_at}
use Rattle.check_link.specs.Slots.{IsSlotIndex, in_table, kind_view, line_of, name_request, number_for, place_at, place_in, positions_of}
use Rattle.check_link.specs.declared.requests.Request as code
use Rattle.check_link.specs.declared.slot_positions.SlotPositions.{SlotPositions}
use Rattle.check_link.proofs.SlotSteps.{or_none}

-- names that have one number are the same
one_name : (names : List (List ℕ)) (m n : List ℕ) (k : ℕ) → position (bytes_eq m) names ≡ Some k → position (bytes_eq n) names ≡ Some k → m ≡ n
one_name names m n k is as_well =
    (bytes_eq-Decides m (get_or names k [])).0 (position-Some (bytes_eq m) names k [] is).1
    ∙ sym ((bytes_eq-Decides n (get_or names k [])).0 (position-Some (bytes_eq n) names k [] as_well).1)

-- targets that have a number are the same where it is
one_target : (names : List (List ℕ)) (t u : TargetRow) (k : ℕ) → number_for names t ≡ Some k → number_for names u ≡ Some k → t ≡ u
one_target names (OfName m) (OfName n) k is as_well = ap OfName (one_name names m n k is as_well)
one_target names (OfLocal o j) u k is as_well = absurd (none-some k is)
one_target names (OfName m) (OfLocal o j) k is as_well = absurd (none-some k as_well)

kinds_of : (q r : Request) → same_request q r ≡ true → same_kind q.kind r.kind ≡ true
kinds_of q r e = (and_parts (same_kind q.kind r.kind) (same_target q.target r.target) e).0

and_both : (a b : Bool) → a ≡ true → b ≡ true → (a && b) ≡ true
and_both true true e f = refl
and_both false b e f = absurd (false≢true e)
and_both true false e f = absurd (false≢true f)

same_parts : (q r : Request) → same_kind q.kind r.kind ≡ true → q.target ≡ r.target → same_request q r ≡ true
same_parts q r kinds targets =
    and_both (same_kind q.kind r.kind) (same_target q.target r.target) kinds
    (subst (λ (t : TargetRow). same_target q.target t ≡ true) targets (and_parts (same_kind q.kind q.kind) (same_target q.target q.target) (same_itself q)).1)

-- A request takes a position, given the number of its name where it has one.
abbrev pub gains : List (List ℕ) → SlotPositions → SlotPositions → Request → ℕ → Request → Type 0
gains names old new r position q = place_in names new q ≡ option_or (place_in names old q) (cond (same_request q r) (Some position) None)

nothing_more : (o : Option ℕ) (b : Bool) (position : ℕ) → b ≡ false → o ≡ option_or o (cond b (Some position) None)
nothing_more o b position e = sym (ap (λ (c : Bool). option_or o (cond c (Some position) None)) e ∙ or_none o)

not_same : (q r : Request) → (q ≡ r → ⊥) → same_request q r ≡ false
not_same q r apart = by (same_request q r) refl
  where
    by : (b : Bool) → same_request q r ≡ b → b ≡ false
    by false e = refl
    by true e = absurd (apart (requests_equal q r e))

module _ (names : List (List ℕ)) (old new : SlotPositions) (r : Request) (position : ℕ) where
  at_number : (k : ℕ) (q : Request) (j : ℕ) → number_for names r.target ≡ Some k → number_for names q.target ≡ Some j → (same_kind q.kind r.kind && j == k) ≡ same_request q r
  at_number k q j is here = by (same_kind q.kind r.kind && j == k) (same_request q r) refl refl
    where
      by : (a b : Bool) → (same_kind q.kind r.kind && j == k) ≡ a → same_request q r ≡ b → a ≡ b
      by true true e f = refl
      by false false e f = refl
      by true false e f =
          let both = and_parts (same_kind q.kind r.kind) (j == k) e in
          let t : q.target ≡ r.target = one_target names q.target r.target k (here ∙ ap Some (eqb-true j k both.1)) is in
          absurd (false≢true (sym f ∙ same_parts q r both.0 t))
      by false true e f =
          let same = requests_equal q r f in
          let n : Some j ≡ Some k = sym here ∙ (ap (λ (s : Request). number_for names s.target) same ∙ is) in
          absurd (false≢true (sym e ∙ and_both (same_kind q.kind r.kind) (j == k) (kinds_of q r f) (eq-eqb j k (same_Some j k n))))

  pub numbered_added :
      (k : ℕ) → number_for names r.target ≡ Some k →
      ((kind : SlotKind) (j : ℕ) → position_at (positions_of kind new) j ≡ option_or (position_at (positions_of kind old) j) (cond (same_kind kind r.kind && j == k) (Some position) None)) →
      new.others ≡ old.others → (q : Request) → gains names old new r position q
  unfolding place_in
  numbered_added k is grown others q = by (number_for names q.target) refl
    where
      by : (o : Option ℕ) → number_for names q.target ≡ o → place_in names new q ≡ option_or (place_in names old q) (cond (same_request q r) (Some position) None)
      by (Some j) e =
          ap (place_at new q) e
          ∙ (grown q.kind j
          ∙ (ap (λ (b : Bool). option_or (position_at (positions_of q.kind old) j) (cond b (Some position) None)) (at_number k q j is e)
          ∙ ap (λ (o : Option ℕ). option_or (place_at old q o) (cond (same_request q r) (Some position) None)) (sym e)))
      by None e =
          ap (place_at new q) e
          ∙ (ap (λ t. in_table t q) others
          ∙ (nothing_more (in_table old.others q) (same_request q r) position
          (not_same q r (λ same. none-some k (sym e ∙ (ap (λ (s : Request). number_for names s.target) same ∙ is))))
          ∙ ap (λ (o : Option ℕ). option_or (place_at old q o) (cond (same_request q r) (Some position) None)) (sym e)))

  pub other_added :
      number_for names r.target ≡ None → ((kind : SlotKind) → positions_of kind new ≡ positions_of kind old) →
      ((q : Request) → in_table new.others q ≡ option_or (in_table old.others q) (cond (same_request q r) (Some position) None)) →
      (q : Request) → gains names old new r position q
  unfolding place_in
  other_added is same grown q = by (number_for names q.target) refl
    where
      by : (o : Option ℕ) → number_for names q.target ≡ o → place_in names new q ≡ option_or (place_in names old q) (cond (same_request q r) (Some position) None)
      by (Some j) e =
          ap (place_at new q) e
          ∙ (ap (λ (l : List (Option ℕ)). position_at l j) (same q.kind)
          ∙ (nothing_more (position_at (positions_of q.kind old) j) (same_request q r) position
          (not_same q r (λ as_well. none-some j (sym is ∙ (sym (ap (λ (s : Request). number_for names s.target) as_well) ∙ e))))
          ∙ ap (λ (o : Option ℕ). option_or (place_at old q o) (cond (same_request q r) (Some position) None)) (sym e)))
      by None e =
          ap (place_at new q) e
          ∙ (grown q ∙ ap (λ (o : Option ℕ). option_or (place_at old q o) (cond (same_request q r) (Some position) None)) (sym e))

-- positions of names stay where others come
pub kinds_kept :
    (old : SlotPositions) (table : BTreeMap code.Request ℕ) (kind : SlotKind) →
    positions_of kind (record { values = old.values; threads = old.threads; others = table }) ≡ positions_of kind old
kinds_kept old table slot.Value = refl
kinds_kept old table slot.Thread = refl

-- the position of a request, by its number
pub place_is : (names : List (List ℕ)) (p : SlotPositions) (q : Request) (o : Option ℕ) → o ≡ number_for names q.target → place_at p q o ≡ place_in names p q
unfolding place_in
place_is names p q o is = ap (place_at p q) is

-- the position of the slot line of a kind for a name that has a number
pub noted_line :
    (names : List (List ℕ)) (rows : List SlotRow) (p : SlotPositions) (L : List LoadedObject) (object symbol : ℕ) (thread : Bool) (k : ℕ) (r : Option ℕ) →
    IsSlotIndex names rows p → ((o : LoadedObject) → slice_get L object ≡ Some o → IsNumberOf names (name_at o.bytes symbol) k) →
    r ≡ position_at (positions_of (kind_view thread) p) k →
    IfSome r (λ i. (o : LoadedObject) → slice_get L object ≡ Some o → line_of rows (name_request thread o symbol) ≡ Some i)
noted_line names rows p L object symbol thread k None index number is = tt
noted_line names rows p L object symbol thread k (Some i) index number is = λ o at.
    let q = name_request thread o symbol in
    sym (index q) ∙ (sym (place_is names p q (Some k) (sym (number o at).found)) ∙ sym is)

-- a table without positions
pub places_none : (p : SlotPositions) → p.values.items ≡ [] → p.threads.items ≡ [] → ((q : Request) → in_table p.others q ≡ None) → (names : List (List ℕ)) (q : Request) →
    place_in names p q ≡ None
unfolding place_in
places_none p values threads others names q = by (number_for names q.target) q.kind refl
  where
    at : (kind : SlotKind) (k : ℕ) → position_at (positions_of kind p) k ≡ None
    at slot.Value k = ap (λ (l : List (Option ℕ)). position_at l k) values
    at slot.Thread k = ap (λ (l : List (Option ℕ)). position_at l k) threads

    by : (o : Option ℕ) (kind : SlotKind) → q.kind ≡ kind → place_at p q o ≡ None
    by (Some k) kind is = at q.kind k
    by None kind is = others q
