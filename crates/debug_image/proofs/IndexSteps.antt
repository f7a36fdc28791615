-- The sections of debug data as they are looked up, with one more section, one more list of relocations, one more object.
use Rattle.std.proofs.Common.{◌≡◌, ◌+◌, ◌++◌, ◌∷◌, ◌∙◌, [], ℕ, Bool, true, false, cond, List, Option, None, Result, Ok, Err, Some, ◌&&◌, not, ap, length, option_map, refl, subst, sym, zero, suc}
use Rattle.std.specs.Prelude.{◌==◌, IfOk, find}
use Rattle.std.proofs.lemmas.List.{append-nil}
use Rattle.std.proofs.lemmas.Grind.{flat_map-append}
use Rattle.std.proofs.lemmas.Bool.{eqb-true, false≢true}
use Rattle.std.specs.BTreeMap.{get}
use Rattle.std.specs.List.{flat_map, range_with_len, slice_get}
use Rattle.std.specs.Option.{is_some, option_and_then, option_or}
use Rattle.std.specs.Ordering.{nat_cmp}
use Rattle.elf_model.specs.Link.Loading.{LoadedObject, is_dropped}
use Rattle.elf_model.specs.Inputs.ObjectFile.{sections}
use Rattle.elf_model.specs.Link.Placement.{Placed}
use Rattle.elf_model.specs.declared.records.Rela.{Rela}
use Rattle.debug_image.specs.DataIndexes.{AreAll, AreIndexes, AreOffsets, AreRelas, DataIndex, IsIndex, listed_entries, offset_at, relas_in}
use Rattle.debug_image.specs.DebugSections.{debug_offset, is_numbered, offset_in_row}
use Rattle.debug_image.specs.ObjectSections.{header_in}
use Rattle.debug_image.specs.DebugValues.{entries_at, is_rela_for}
use Rattle.debug_image.specs.declared.data_index.DataSection.{DataSection}
use Rattle.debug_image.proofs.RangeSteps.{flat_map_range}

-- the offset of a section in a row with one more
pub offset_behind : (n : ℕ) (row : List Placed) (q : Placed) → offset_in_row n (row ++ q ∷ []) ≡ option_or (offset_in_row n row) (cond (is_numbered n q) (Some q.at) None)
offset_behind n [] q = by (is_numbered n q)
  where
    by : (b : Bool) → option_map (λ (r : Placed). r.at) (cond b (Some q) None) ≡ cond b (Some q.at) None
    by true = refl
    by false = refl
offset_behind n (r ∷ row) q = by (is_numbered n r) (offset_behind n row q)
  where
    by :
        (b : Bool) → offset_in_row n (row ++ q ∷ []) ≡ option_or (offset_in_row n row) (cond (is_numbered n q) (Some q.at) None) →
        option_map (λ (p : Placed). p.at) (cond b (Some r) (find (is_numbered n) (row ++ q ∷ [])))
        ≡ option_or (option_map (λ (p : Placed). p.at) (cond b (Some r) (find (is_numbered n) row))) (cond (is_numbered n q) (Some q.at) None)
    by true e = refl
    by false e = e

-- an index of a row with one more section, which is known or is added
pub known_place : (row : List Placed) (d : DataIndex) (q : Placed) → AreOffsets row d → is_some (get nat_cmp d q.piece.section) ≡ true → AreOffsets (row ++ q ∷ []) d
known_place row d q are there n = are n ∙ sym (offset_behind n row q ∙ by (offset_in_row n row) refl (is_numbered n q) refl)
  where
    known : (o : Option DataSection) → is_some o ≡ true → option_map (λ (s : DataSection). s.at) o ≡ None → ⊥
    known None some none = false≢true some
    known (Some s) some none = cc

    by : (o : Option ℕ) → offset_in_row n row ≡ o → (b : Bool) → is_numbered n q ≡ b → option_or (offset_in_row n row) (cond (is_numbered n q) (Some q.at) None) ≡ offset_in_row n row
    by (Some x) e b is = rw e refl
    by None e false is = rw e (rw is refl)
    by None e true is = absurd (known (get nat_cmp d n) (ap (λ (k : ℕ). is_some (get nat_cmp d k)) (sym (eqb-true q.piece.section n is)) ∙ there) (are n ∙ e))

pub new_place :
    (row : List Placed) (d e : DataIndex) (q : Placed) (s : DataSection) → AreOffsets row d → s.at ≡ q.at → is_some (get nat_cmp d q.piece.section) ≡ false →
    ((n : ℕ) → get nat_cmp e n ≡ cond (q.piece.section == n) (Some s) (get nat_cmp d n)) → AreOffsets (row ++ q ∷ []) e
new_place row d e q s are is_at none updated n =
    ap (λ (o : Option DataSection). option_map (λ (r : DataSection). r.at) o) (updated n)
    ∙ (by (is_numbered n q) refl ∙ sym (offset_behind n row q))
  where
    gone : (o : Option DataSection) → is_some o ≡ false → option_map (λ (r : DataSection). r.at) o ≡ None
    gone None isnt = refl
    gone (Some r) isnt = absurd (false≢true (sym isnt))

    nothing : (o : Option ℕ) → o ≡ option_or o None
    nothing None = refl
    nothing (Some k) = refl

    by : (b : Bool) → is_numbered n q ≡ b → option_map (λ (r : DataSection). r.at) (cond (is_numbered n q) (Some s) (get nat_cmp d n)) ≡ option_or (offset_in_row n row) (cond (is_numbered n q) (Some q.at) None)
    by false is = rw is (are n ∙ nothing (offset_in_row n row))
    by true is =
        rw is
        (ap Some is_at
        ∙ sym
        (ap (λ (o : Option ℕ). option_or o (Some q.at))
        (sym (are n) ∙ gone (get nat_cmp d n) (ap (λ (k : ℕ). is_some (get nat_cmp d k)) (sym (eqb-true q.piece.section n is)) ∙ none))))

-- the sections that hold relocations, with one more
not_for : (o : LoadedObject) (n i : ℕ) → is_rela_for o n i ≡ false → entries_at o n i ≡ []
not_for o n i isnt = ap (λ (b : Bool). cond b (relas_in o i) []) isnt

none_more : (o : LoadedObject) (n i : ℕ) → is_rela_for o n i ≡ false → flat_map (entries_at o n) (range_with_len 0 (i + 1)) ≡ flat_map (entries_at o n) (range_with_len 0 i)
none_more o n i isnt =
    flat_map_range (entries_at o n) i
    ∙ (ap (λ (es : List Rela). flat_map (entries_at o n) (range_with_len 0 i) ++ es) (not_for o n i isnt) ∙ append-nil (flat_map (entries_at o n) (range_with_len 0 i)))

and_false : (b : Bool) → (b && false) ≡ false
and_false true = refl
and_false false = refl

pub dropped_rela : (o : LoadedObject) (i : ℕ) (d : DataIndex) → is_dropped o i ≡ true → AreRelas o i d → AreRelas o (i + 1) d
dropped_rela o i d gone are n s there =
    are n s there
    ∙ sym (none_more o n i (ap (λ (b : Bool). ((header_in o i).sh_info == n) && not b) gone ∙ and_false ((header_in o i).sh_info == n)))

other_target : (o : LoadedObject) (n i : ℕ) → ((header_in o i).sh_info == n) ≡ false → is_rela_for o n i ≡ false
other_target o n i isnt = ap (λ (b : Bool). b && not (is_dropped o i)) isnt

inner : {X : Type 0} {x y : X} → Some x ≡ Some y → x ≡ y
inner same = cc

pub other_rela : (o : LoadedObject) (i : ℕ) (d : DataIndex) → get nat_cmp d (header_in o i).sh_info ≡ None → AreRelas o i d → AreRelas o (i + 1) d
other_rela o i d none are n s there = are n s there ∙ sym (none_more o n i (other_target o n i (by ((header_in o i).sh_info == n) refl)))
  where
    by : (b : Bool) → ((header_in o i).sh_info == n) ≡ b → b ≡ false
    by false is = refl
    by true is = absurd (never (sym none ∙ (ap (get nat_cmp d) (eqb-true (header_in o i).sh_info n is) ∙ there)))
      where
        never : None ≡ Some s → ⊥
        never e = cc

module _ (d e : DataIndex) (t : ℕ) (s new : DataSection) (there : get nat_cmp d t ≡ Some s) (updated : (n : ℕ) → get nat_cmp e n ≡ cond (t == n) (Some new) (get nat_cmp d n)) where
  pub offsets_kept : (row : List Placed) → new.at ≡ s.at → AreOffsets row d → AreOffsets row e
  offsets_kept row same are n = ap (λ (o : Option DataSection). option_map (λ (r : DataSection). r.at) o) (updated n) ∙ by (t == n) refl
    where
      by : (b : Bool) → (t == n) ≡ b → option_map (λ (r : DataSection). r.at) (cond (t == n) (Some new) (get nat_cmp d n)) ≡ offset_in_row n row
      by false is = rw is (are n)
      by true is =
          rw is
          (ap Some same
          ∙ (sym (ap (λ (o : Option DataSection). option_map (λ (r : DataSection). r.at) o) (sym (ap (get nat_cmp d) (eqb-true t n is)) ∙ there)) ∙ are n))

  pub added_rela :
      (o : LoadedObject) (i : ℕ) → (header_in o i).sh_info ≡ t → is_dropped o i ≡ false → new.relas.items ≡ s.relas.items ++ i ∷ [] → AreRelas o i d →
      AreRelas o (i + 1) e
  added_rela o i is_t kept more are n r there_e = by (t == n) refl
    where
      same : ((header_in o i).sh_info == n) ≡ (t == n)
      same = ap (λ (k : ℕ). k == n) is_t

      by : (b : Bool) → (t == n) ≡ b → listed_entries o r ≡ flat_map (entries_at o n) (range_with_len 0 (i + 1))
      by false is =
          are n r (ap (λ (b : Bool). cond b (Some new) (get nat_cmp d n)) (sym is) ∙ (sym (updated n) ∙ there_e))
          ∙ sym (none_more o n i (other_target o n i (same ∙ is)))
      by true is =
          ap (listed_entries o) (sym (inner (ap (λ (b : Bool). cond b (Some new) (get nat_cmp d n)) (sym is) ∙ (sym (updated n) ∙ there_e))))
          ∙ (ap (flat_map (relas_in o)) more
          ∙ (flat_map-append (relas_in o) s.relas.items (i ∷ [])
          ∙ (ap (λ (es : List Rela). listed_entries o s ++ es) (append-nil (relas_in o i))
          ∙ (ap (λ (es : List Rela). es ++ relas_in o i) (are n s (sym (ap (get nat_cmp d) (eqb-true t n is)) ∙ there))
          ∙ (ap (λ (es : List Rela). flat_map (entries_at o n) (range_with_len 0 i) ++ es)
          (sym (ap (λ (b : Bool). cond (b && not (is_dropped o i)) (relas_in o i) []) (same ∙ is) ∙ ap (λ (b : Bool). cond (not b) (relas_in o i) []) kept))
          ∙ sym (flat_map_range (entries_at o n) i))))))

-- the indexes of one more object
pub all_more :
    (os : List LoadedObject) (rows : List (List Placed)) (ds : List DataIndex) (o : LoadedObject) (row : List Placed) (d : DataIndex) →
    AreAll os rows ds → IsIndex o row d → AreAll (os ++ o ∷ []) (rows ++ row ∷ []) (ds ++ d ∷ [])
all_more [] [] [] o row d all is = (is, tt)
all_more (p ∷ os) (r ∷ rows) (e ∷ ds) o row d all is = (all.0, all_more os rows ds o row d all.1 is)
all_more [] [] (e ∷ ds) o row d all is = absurd all
all_more [] (r ∷ rows) ds o row d all is = absurd all
all_more (p ∷ os) [] ds o row d all is = absurd all
all_more (p ∷ os) (r ∷ rows) [] o row d all is = absurd all

offsets_at : (os : List LoadedObject) (rows : List (List Placed)) (ds : List DataIndex) → AreAll os rows ds → (k n : ℕ) → option_and_then (λ d. offset_at d n) (slice_get ds k) ≡ debug_offset rows k n
offsets_at [] [] [] all k n = refl
offsets_at (o ∷ os) (row ∷ rows) (d ∷ ds) all zero n = all.0.offsets n
offsets_at (o ∷ os) (row ∷ rows) (d ∷ ds) all (suc k) n = offsets_at os rows ds all.1 k n
offsets_at [] [] (e ∷ ds) all k n = absurd all
offsets_at [] (r ∷ rows) ds all k n = absurd all
offsets_at (p ∷ os) [] ds all k n = absurd all
offsets_at (p ∷ os) (r ∷ rows) [] all k n = absurd all

relas_at :
    (os : List LoadedObject) (rows : List (List Placed)) (ds : List DataIndex) → AreAll os rows ds → (k : ℕ) (o : LoadedObject) (d : DataIndex) →
    slice_get os k ≡ Some o → slice_get ds k ≡ Some d → AreRelas o (length (sections o.bytes)) d
relas_at [] [] [] all k o d is_o is_d = absurd (cc)
relas_at (p ∷ os) (row ∷ rows) (e ∷ ds) all zero o d is_o is_d =
    subst (λ (x : LoadedObject). AreRelas x (length (sections x.bytes)) d) (inner is_o) (subst (AreRelas p (length (sections p.bytes))) (inner is_d) all.0.relas)
  where
    inner : {X : Type 0} {x y : X} → Some x ≡ Some y → x ≡ y
    inner same = cc
relas_at (p ∷ os) (row ∷ rows) (e ∷ ds) all (suc k) o d is_o is_d = relas_at os rows ds all.1 k o d is_o is_d
relas_at [] [] (e ∷ ds) all k o d is_o is_d = absurd all
relas_at [] (r ∷ rows) ds all k o d is_o is_d = absurd all
relas_at (p ∷ os) [] ds all k o d is_o is_d = absurd all
relas_at (p ∷ os) (r ∷ rows) [] all k o d is_o is_d = absurd all

pub indexed : (os : List LoadedObject) (rows : List (List Placed)) (ds : List DataIndex) → AreAll os rows ds → AreIndexes os rows ds
indexed os rows ds all = record { offsets = offsets_at os rows ds all; relas = relas_at os rows ds all }

pub none_indexed : (os : List LoadedObject) → AreIndexes os [] []
none_indexed os = record { offsets = λ k n. refl; relas = λ k o d is_o is_d. absurd (cc) }

pub if_ok : {A E : Type 0} (P Q : A → Type 0) (r : Result A E) → ((a : A) → P a → Q a) → IfOk r P → IfOk r Q
if_ok P Q (Ok a) more is = more a is
if_ok P Q (Err e) more is = tt
