-- What a place says denies its clause.
use Rattle.std.proofs.Common.{Bool, List, None, Option, Some, [], ap, arith, false, get_or, inl, inr, not, option_map, refl, subst, sym, true, ℕ, ⊎_elim, ◌%◌, ◌++◌, ◌+◌, ◌<◌, ◌∙◌, ◌∷◌, ◌≡◌, ◌≤◌, ◌⊎◌, zero, suc, ◌*◌, ◌-◌}
use Rattle.std.specs.Prelude.{All, AllPairs, Contains, IfSome, IsSome, cond, filter, is_some, length, map, nat_le}
use Rattle.std.specs.List.{slice_get}
use Rattle.std.proofs.lemmas.Bool.{false≢true, leb-false}
use Rattle.std.proofs.lemmas.Option.{get_or_from_slice_get, none-some, same_Some, slice_get-map, slice_get_within}
use Rattle.std.proofs.lemmas.List.Elements.{All-contains}
use Rattle.elf_model.specs.Image.MapRecord.{SlotRow}
use Rattle.elf_model.specs.Image.MemoryImage.{HasNoSections, loads, memory_of, thread_blocks}
use Rattle.elf_model.specs.Image.RightLink.{AreTablesRight, EndsRight, Holds, HoldsGot, HoldsInitial, HoldsPiece, HoldsTables, IsClearOf, IsThreadBlockRight, StandFrom, Subject, facts_of_piece, facts_of_row, fill_of, object_rows, objects_of, other_things, placed_of, thread_data_end, things_of, where_of}
use Rattle.elf_model.specs.Image.SymbolTable.{headers_at}
use Rattle.elf_model.specs.Inputs.Records.{file_header}
use Rattle.elf_model.specs.Link.Loading.{LoadedObject}
use Rattle.elf_model.specs.Link.Pieces.{is_thread_zero, kept_sections}
use Rattle.elf_model.specs.Link.Placement.{AreApart, HasRights, IsNear, IsPlaced, IsWithin, LiesInSegment, Placed, got_things, is_thread_place, range_of, thing_of, thread_ranges}
use Rattle.elf_model.specs.Link.Relocation.{IsLawfulRelocation, Kind, Relocation, relocations}
use Rattle.elf_model.specs.Link.RelocationValues.{Fits}
use Rattle.elf_model.specs.declared.link_map.GotLine.{GotLine}
use Rattle.elf_model.specs.declared.link_map.SymtabLine.{SymtabLine}
use Rattle.elf_model.specs.declared.records.FileHeader.{FileHeader}
use Rattle.elf_model.specs.declared.records.ProgramHeader.{ProgramHeader}
use Rattle.elf_model.specs.declared.thing.Thing.{Thing}
use Rattle.elf_model.proofs.Listed.{All-parts, All-unmap, Contains-filter, Contains-from_slice_get, Contains-map}
use Rattle.elf_model.proofs.Pairs.{AllPairs-head, AllPairs-tail}
use Rattle.check_link.specs.Views.{placed_view}
use Rattle.check_link.specs.declared.things.Placed as code
use Rattle.check_link.proofs.Padded.{below_or_not}
use Rattle.check_places.specs.Far.{AreFar}
use Rattle.check_places.specs.ObjectLines.{row_of}
use Rattle.checker.proofs.Filtered.{All-unfilter}
use Rattle.checker.specs.ThreadBlock.{BeginsAfter, IsPlaceClear, is_other_place}
use Rattle.input_names.proofs.ListedPlaces.{listed}
use Rattle.input_names.specs.RelocationPlaces.{IsRelocationAt}
use Rattle.input_names.specs.declared.relocation_faults.RelocationFault.{RelocationFault}
use Rattle.input_names.specs.declared.relocation_faults.RelocationFault.TheVariants as fault
use Rattle.input_names.specs.declared.relocation_places.RelocationPlace.{RelocationPlace}
use Rattle.explain_check.specs.Places.{FailsIn, IsInBlock, IsInner, IsShared, IsThing, IsUnheld, IsUnlawful, clause_of, ordered_sections, parts_end, piece_of}
use Rattle.explain_check.specs.declared.place.ByteOf.TheVariants as of
use Rattle.explain_check.specs.declared.place.CheckPlace.{CheckPlace}
use Rattle.explain_check.specs.declared.place.CheckPlace.TheVariants as place
use Rattle.explain_check.specs.declared.place.LineKey.TheVariants as key
use Rattle.explain_check.specs.declared.place.NumberName.TheVariants as number
use Rattle.explain_check.specs.declared.place.Part.{Part}
use Rattle.explain_check.proofs.WrongSlots.{needless, unserved}

-- what holds of all of a list holds of the one that has a number
at_number : {X : Type 0} (P : X → Type 0) (xs : List X) (k : ℕ) (x : X) → All P xs → slice_get xs k ≡ Some x → P x
at_number P xs k x all there = All-contains P xs x all (Contains-from_slice_get xs k x there)

-- what an option has where it has something that is made of it
some_of : {X Y : Type 0} (o : Option X) (v : X → Y) (y : Y) → option_map v o ≡ Some y → (x : X) × (o ≡ Some x) × (v x ≡ y)
some_of None v y e = absurd (none-some y e)
some_of (Some x) v y e = (x, refl, same_Some (v x) y e)

-- what holds of what an option has holds of this
at_some : {X : Type 0} (P : X → Type 0) (o : Option X) (x : X) → IfSome o P → o ≡ Some x → P x
at_some P o x all is = subst (λ p. IfSome p P) is all

not_itself : (b : Bool) → b ≡ not b → ⊥
not_itself true e = false≢true (sym e)
not_itself false e = false≢true e

-- the object line of the object that has a number
rows_at : (n k m : ℕ) (os : List LoadedObject) → m ≡ n + k → slice_get (object_rows n os) k ≡ option_map (row_of m) (slice_get os k)
rows_at n k m [] e = refl
rows_at n zero m (o ∷ os) e = let same : n ≡ m = omega (arith, e) in ap (λ (i : ℕ). Some (row_of i o)) same
rows_at n (suc k) m (o ∷ os) e = rows_at (n + 1) k m os (omega (arith, e))

-- two elements of a list of which each two do, and two that a filter keeps
pairs_at :
    {X : Type 0} (R : X → X → Type 0) (xs : List X) (i j : ℕ) (x y : X) → AllPairs R xs → i < j → slice_get xs i ≡ Some x → slice_get xs j ≡ Some y → R x y
pairs_at R xs i j x y all low a b =
    subst (R x) (get_or_from_slice_get xs j y x b)
    (subst (λ z. R z (get_or xs j x)) (get_or_from_slice_get xs i x x a) (all i j x low (slice_get_within xs j y b)))

pairs_kept :
    {X Y : Type 0} (R : Y → Y → Type 0) (f : X → Y) (p : X → Bool) (xs : List X) (i j : ℕ) (x y : X) → AllPairs R (map f (filter p xs)) → i < j →
    slice_get xs i ≡ Some x → slice_get xs j ≡ Some y → p x ≡ true → p y ≡ true → R (f x) (f y)
pairs_kept R f p [] i j x y all low a b px py = absurd (none-some x a)
pairs_kept R f p (z ∷ zs) i zero x y all low a b px py = absurd (omega (arith, low))
pairs_kept R f p (z ∷ zs) zero (suc j) x y all low a b px py =
    let same : z ≡ x = same_Some z x a in
    let kept = subst (λ c. AllPairs R (map f (cond c (z ∷ filter p zs) (filter p zs)))) (ap p same ∙ px) all in
    subst (λ w. R (f w) (f y)) same
    (All-contains (R (f z)) (map f (filter p zs)) (f y) (AllPairs-head R (f z) (map f (filter p zs)) kept)
    (Contains-map f (filter p zs) y (Contains-filter p zs y (Contains-from_slice_get zs j y b) py)))
pairs_kept R f p (z ∷ zs) (suc i) (suc j) x y all low a b px py =
    pairs_kept R f p zs i j x y (by (p z) all) (omega (arith, low)) a b px py
  where
    by : (c : Bool) → AllPairs R (map f (cond c (z ∷ filter p zs) (filter p zs))) → AllPairs R (map f (filter p zs))
    by true kept = AllPairs-tail R (f z) (map f (filter p zs)) kept
    by false kept = kept

-- what holds of all kept relocations holds of one that has its place
at_place :
    (P : Relocation → Type 0) (objects : List LoadedObject) (p : RelocationPlace) (r : Relocation) → IsRelocationAt objects p r →
    All P (relocations objects) → P r
at_place P objects p r at all = All-contains P (relocations objects) r all (listed objects p r at)

unlawful_denied : (objects : List LoadedObject) (r : Relocation) (f : RelocationFault) → IsUnlawful objects r f → IsLawfulRelocation objects r → ⊥
unlawful_denied objects r fault.Undefined h right = right.defined h
unlawful_denied objects r fault.RefToDropped h right = right.kept h
unlawful_denied objects r fault.RelocKind h right = false≢true (subst (λ (o : Option Kind). IsSome o) h right.known)
unlawful_denied objects r fault.FieldOutside h right = h right.inside
unlawful_denied objects r fault.TlsMismatch h right = right.thread h
unlawful_denied objects r fault.MixedSection h right = right.unmixed h

-- where the slot of a line stands
stand_at : (a : ℕ) (rows : List SlotRow) (k : ℕ) (row : SlotRow) → slice_get rows k ≡ Some row → StandFrom a rows → row.address ≡ a + 8 * k
stand_at a [] k row there s = absurd (none-some row there)
stand_at a (first ∷ rows) zero row there s =
    let same : first.address ≡ row.address = ap (λ (x : SlotRow). x.address) (same_Some first row there) in
    let is = s.0 in
    omega (arith, same, is)
stand_at a (first ∷ rows) (suc k) row there s = let e = stand_at (a + 8) rows k row there s.1 in omega (arith, e)

-- the GOT is the second thing, where there is one
at_got :
    (P : Thing → Type 0) (got : Option GotLine) (h : Thing) (rest : List Thing) (n : ℕ) (t : Thing) → n ≡ 1 → IsSome got →
    slice_get (h ∷ (got_things got ++ rest)) n ≡ Some t → All P (got_things got) → P t
at_got P None h rest n t one some there all = absurd (false≢true some)
at_got P (Some g) h rest n t one some there all =
    at_number P (got_things (Some g)) 0 t all (subst (λ (k : ℕ). slice_get (h ∷ (got_things (Some g) ++ rest)) k ≡ Some t) one there)

module _ (s : Subject) where
  abbrev gots : ℕ
  gots = length (got_things s.map.got)

  -- the piece that a thing is stands at a number of its own
  piece_at : (k : ℕ) (q : Placed) → piece_of s k ≡ Some q → (n : ℕ) × (k ≡ 1 + gots + n) × (slice_get (placed_of s) n ≡ Some q)
  piece_at k q there = by (nat_le k gots) refl there
    where
      by : (b : Bool) → nat_le k gots ≡ b → cond b None (slice_get (placed_of s) (k - 1 - gots)) ≡ Some q → (n : ℕ) × (k ≡ 1 + gots + n) × (slice_get (placed_of s) n ≡ Some q)
      by true e f = absurd (none-some q f)
      by false e f = let above = leb-false k gots e in (k - 1 - gots, omega (arith, above), f)

  -- C5
  abbrev Placing : Type 0
  Placing = IsPlaced s.plan.base (things_of s) (thread_ranges (placed_of s)) (ordered_sections s)

  within_at : (thread : Bool) (k : ℕ) (t : Thing) → IsThing s thread k t → Placing → IsWithin s.plan.base t
  within_at false k t there right = at_number (IsWithin s.plan.base) (things_of s) k t right.within there
  within_at true k t is right =
      let at = piece_at k is.q is.there in
      subst (IsWithin s.plan.base) (sym is.range)
      (All-contains (IsWithin s.plan.base) (thread_ranges (placed_of s)) (range_of is.q) right.threads_within
      (Contains-map range_of (filter is_thread_place (placed_of s)) is.q
      (Contains-filter is_thread_place (placed_of s) is.q (Contains-from_slice_get (placed_of s) at.0 is.q at.2) is.thread)))

  apart_below : (thread : Bool) (i j : ℕ) (t u : Thing) → i < j → IsThing s thread i t → IsThing s thread j u → Placing → AreApart t u
  apart_below false i j t u low a b right = pairs_at AreApart (things_of s) i j t u right.apart low a b
  apart_below true i j t u low a b right =
      let m = piece_at i a.q a.there in
      let n = piece_at j b.q b.there in
      let below : m.0 < n.0 = (let e = m.1 in let f = n.1 in omega (arith, low, e, f)) in
      subst (AreApart t) (sym b.range)
      (subst (λ (x : Thing). AreApart x (range_of b.q)) (sym a.range)
      (pairs_kept AreApart range_of is_thread_place (placed_of s) m.0 n.0 a.q b.q right.threads_apart below m.2 n.2 a.thread b.thread))

  shared_denied : (p q : Part) → IsShared s p q → Placing → ⊥
  shared_denied p q h right =
      let second = subst (λ (b : Bool). IsThing s b q.number q.thing) (sym h.same_list) h.second.there in
      h.wrong (by second (below_or_not p.number q.number))
    where
      by : IsThing s p.thread q.number q.thing → (p.number < q.number) ⊎ (q.number ≤ p.number) → AreApart p.thing q.thing
      by second (inl low) = apart_below p.thread p.number q.number p.thing q.thing low h.first.there second right
      by second (inr high) =
          let two = h.two in
          λ a x y. apart_below p.thread q.number p.number q.thing p.thing (omega (arith, high, two)) second h.first.there right a y x

  far_denied : (p q : code.Placed) → AreFar (ordered_sections s) p q → Placing → ⊥
  far_denied p q h right =
      let d = placed_view p in
      h.wrong
      (subst (IsNear d) (get_or_from_slice_get (ordered_sections s) h.j (placed_view q) d h.second)
      (subst (λ (x : Placed). IsNear x (get_or (ordered_sections s) h.j d)) (get_or_from_slice_get (ordered_sections s) h.i d d h.first) (right.near h.i h.j d (h.next d))))

  -- C6
  unheld_denied : (p : Part) (segment : Option ProgramHeader) → IsUnheld s p segment → HasRights s.plan.base (loads s.image) (things_of s) (got_things s.map.got) → ⊥
  unheld_denied p segment h right =
      let there = subst (λ (b : Bool). IsThing s b p.number p.thing) h.thing h.part.there in
      ⊎_elim
      (λ some. h.wrong (at_number (λ (t : Thing). 0 < t.size → LiesInSegment (loads s.image) t) (things_of s) p.number p.thing right.nonempty there some))
      (λ is. h.wrong (at_got (LiesInSegment (loads s.image)) s.map.got _ _ p.number p.thing is.0 is.1 there right.got))
      h.must_lie

  -- C8
  inner_denied : (inside : Option code.Placed) (at start end : ℕ) → IsInBlock s inside at start end → IsThreadBlockRight s → ⊥
  inner_denied inside at start end h right = by inside h.inner
    where
      all : All (IsClearOf start end) (other_things s)
      all =
          subst (λ (n : ℕ). All (IsClearOf start n) (other_things s)) (sym h.is_end)
          (subst (λ (n : ℕ). All (IsClearOf n (thread_data_end s)) (other_things s)) (sym h.is_start)
          (at_number (λ (x : ProgramHeader). All (IsClearOf x.p_vaddr (thread_data_end s)) (other_things s)) (thread_blocks s.image) 0 h.header right.clear h.there))

      parts : All (IsClearOf start end) (got_things s.map.got) × All (IsClearOf start end) (map thing_of (filter is_other_place (placed_of s)))
      parts = All-parts (IsClearOf start end) (got_things s.map.got) (map thing_of (filter is_other_place (placed_of s))) all

      after : (q : Placed) → Contains (placed_of s) q → BeginsAfter end q
      after q there zeros =
          subst (λ (n : ℕ). n ≤ q.at) (sym h.is_end)
          (All-contains (λ (x : Placed). is_thread_zero x.piece ≡ true → thread_data_end s ≤ x.at) (placed_of s) q right.before there zeros)

      clear : (q : Placed) → Contains (placed_of s) q → IsPlaceClear start end q
      clear q there =
          let P : Placed → Type 0 = λ x. IsClearOf start end (thing_of x) in
          All-contains (IsPlaceClear start end) (placed_of s) q
          (All-unfilter is_other_place P (placed_of s) (All-unmap (IsClearOf start end) thing_of (filter is_other_place (placed_of s)) parts.1)) there

      by : (o : Option code.Placed) → IsInner s start end o at → ⊥
      by None inner = inner.1 parts.0
      by (Some q) inner = inner.1.1 (after (placed_view q) inner.0, clear (placed_view q) inner.0)

  -- C14. A number of the file header, where a table is told of and where none is.
  header_right :
      (field : FileHeader → ℕ) (told : ℕ) → ((line : SymtabLine) → HoldsTables s line → field (file_header s.image) ≡ told) →
      (HasNoSections (file_header s.image) → field (file_header s.image) ≡ 0) → AreTablesRight s →
      field (file_header s.image) ≡ cond (is_some s.map.symtab) told 0
  header_right field told with_line without right = by s.map.symtab right.held right.none
    where
      by :
          (o : Option SymtabLine) → IfSome o (HoldsTables s) → (o ≡ None → HasNoSections (file_header s.image)) →
          field (file_header s.image) ≡ cond (is_some o) told 0
      by None held none = without (none refl)
      by (Some line) held none = with_line line held

  told_right : (o : Option SymtabLine) → IsSome o → IfSome o (HoldsTables s) → (line : SymtabLine) × HoldsTables s line
  told_right None some held = absurd (false≢true some)
  told_right (Some line) some held = (line, held)

  -- C11. The length of a file without a table.
  length_right : (o : Option SymtabLine) (n m : ℕ) → (o ≡ None → length s.image ≡ n) → cond (is_some o) None (Some n) ≡ Some m → length s.image ≡ m
  length_right None n m end wanted = end refl ∙ same_Some n m wanted
  length_right (Some line) n m end wanted = absurd (none-some m wanted)

  abbrev Got : GotLine → Type 0
  Got = HoldsGot (objects_of s) (where_of s) s.image

-- each place denies its clause
pub denies : (s : Subject) (p : CheckPlace) → FailsIn s p → Holds (clause_of p) s → ⊥
denies s (place.Line (key.Object k) wanted) h right = h.wrong (ap (λ rows. slice_get rows k) right.rows ∙ rows_at 0 k k (objects_of s) (omega arith))
denies s (place.Line (key.Drop k) wanted) h right = h.wrong (ap (λ rows. slice_get rows k) right.drops)
denies s (place.Line (key.Place k) wanted) h right =
    h.wrong
    (sym (slice_get-map facts_of_row s.map.places k)
    ∙ (ap (λ facts. slice_get facts k) right.places ∙ slice_get-map facts_of_piece (kept_sections (objects_of s)) k))
denies s (place.Line (key.Common name) wanted) h right = h.wrong (right.commons name.now)
denies s (place.Line (key.Symbol name) wanted) h right = h.wrong (right.lines name.now)
denies s (place.Unaligned p) h right =
    h.wrong
    (at_number (λ (t : Thing). t.at % t.align ≡ 0) (things_of s) p.number p.thing right.aligned
    (subst (λ (b : Bool). IsThing s b p.number p.thing) h.thing h.part.there))
denies s (place.Outside p) h right = h.1 (within_at s p.thread p.number p.thing h.0.there right)
denies s (place.Shared p q) h right = shared_denied s p q h right
denies s (place.Far p q) h right = far_denied s p q h right
denies s (place.Unheld p segment) h right = unheld_denied s p segment h right
denies s (place.First address) h right = h.1 (h.0 ∙ right.first)
denies s (place.Got there) h right = not_itself there (h.0 ∙ (right.present ∙ h.1))
denies s (place.SlotLine k first q) h right = needless s k first q h right.slots
denies s (place.NoSlot p q) h right = unserved s p q h right.slots
denies s (place.Number number.GotSize m n) h right =
    let got = some_of s.map.got (λ g. g.size) m h.is_there in
    h.wrong (sym got.2 ∙ ((at_some (Got s) s.map.got got.0 right.held got.1).size ∙ same_Some _ n h.is_wanted))
denies s (place.Number (number.SlotAddress k) m n) h right =
    let got = some_of s.map.got (λ g. g.address + 8 + 8 * k) n h.is_wanted in
    let row = some_of (slice_get s.map.slots k) (λ r. r.address) m h.is_there in
    let held = at_some (Got s) s.map.got got.0 right.held got.1 in
    h.wrong (sym row.2 ∙ (stand_at (got.0.address + 8) s.map.slots k row.0 row.1 held.places ∙ got.2))
denies s (place.Number number.Length m n) h right =
    h.wrong (sym (same_Some _ m h.is_there) ∙ length_right s s.map.symtab (parts_end s) n right.end h.is_wanted)
denies s (place.Number number.TableOffset m n) h right =
    let line = some_of s.map.symtab (λ l. l.offset) m h.is_there in
    h.wrong (sym line.2 ∙ ((at_some (HoldsTables s) s.map.symtab line.0 right.held line.1).offset ∙ same_Some _ n h.is_wanted))
denies s (place.Number number.TableCount m n) h right =
    let line = some_of s.map.symtab (λ l. l.count) m h.is_there in
    h.wrong (sym line.2 ∙ ((at_some (HoldsTables s) s.map.symtab line.0 right.held line.1).count ∙ same_Some _ n h.is_wanted))
denies s (place.Number number.HeadersOffset m n) h right =
    let e = header_right s (λ x. x.e_shoff) (headers_at _ _) (λ line t. t.headers_offset) (λ x. x.offset) right in
    h.wrong (sym (same_Some _ m h.is_there) ∙ (e ∙ same_Some _ n h.is_wanted))
denies s (place.Number number.HeadersCount m n) h right =
    let e = header_right s (λ x. x.e_shnum) 4 (λ line t. t.headers_count) (λ x. x.count) right in
    h.wrong (sym (same_Some _ m h.is_there) ∙ (e ∙ same_Some _ n h.is_wanted))
denies s (place.Number number.NamesSection m n) h right =
    let e = header_right s (λ x. x.e_shstrndx) 3 (λ line t. t.names_section) (λ x. x.names) right in
    h.wrong (sym (same_Some _ m h.is_there) ∙ (e ∙ same_Some _ n h.is_wanted))
denies s (place.Byte (of.Got got) p) h right =
    let held = at_some (Got s) s.map.got got right.held h.wanted.0 in
    h.wrong (h.there ∙ (held.bytes p.offset h.wanted.1.0 ∙ sym h.wanted.1.1))
denies s (place.Byte (of.Piece i q relocation) p) h right =
    let held = at_number (HoldsPiece (objects_of s) (where_of s) s.image) (placed_of s) i (placed_view q) right h.wanted.piece in
    h.wrong (h.there ∙ (held.bytes p.offset h.wanted.below ∙ sym h.wanted.wanted_is))
denies s (place.Byte (of.Fill rights) p) h right =
    let c = some_of (memory_of s.image p.offset) (λ x. x.rights) rights h.wanted.rights_are in
    let is = right.fill p.offset c.0 c.1 h.wanted.outside ∙ ap fill_of c.2 in
    h.wrong (h.there ∙ (ap (option_map (λ x. x.byte)) c.1 ∙ (ap Some is ∙ sym h.wanted.wanted_is)))
denies s (place.Byte of.Gap p) h right =
    h.wrong (h.there ∙ (ap Some (right.gaps p.offset h.wanted.0 h.wanted.1.0) ∙ sym h.wanted.1.1))
denies s (place.Byte (of.Tail end entry) p) h right =
    let t = told_right s s.map.symtab h.wanted.told right.held in
    h.wrong (h.there ∙ (ap (λ (xs : List ℕ). slice_get xs p.offset) t.1.bytes ∙ sym h.wanted.is_wanted))
denies s (place.ThreadHeader there wanted) h right = h.wrong right.headers
denies s (place.InThreadBlock name at start end) h right = inner_denied s name at start end h right
denies s (place.ThreadBytes x) h right = h.1 (at_number (HoldsInitial (loads s.image)) (thread_blocks s.image) 0 x right.held h.0)
denies s (place.Relocation p f) h right =
    unlawful_denied (objects_of s) h.r f h.wrong (at_place (IsLawfulRelocation (objects_of s)) (objects_of s) p h.r h.at right.lawful.each)
denies s (place.Overlap p q) h right = h.1 right
denies s (place.Value p value address) h right =
    h.wrong (at_place (Fits (objects_of s) (where_of s)) (objects_of s) p h.r h.at right.fits)
denies s (place.SegmentEnd k x in_file end) h right = h.wrong (at_number (EndsRight (things_of s)) (loads s.image) k x right.segments h.there)
denies s (place.Entry e_entry value) h right = h.wrong right
denies s (place.Symtab there) h right = h.1.1 (h.1.0 ∙ right.asked h.0)
denies s (place.Whole c) h right = h right
