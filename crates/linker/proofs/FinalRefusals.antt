-- The cause of a final refusal denies a clause of every right link.
use Rattle.std.proofs.Common.{◌≡◌, ℕ, ◌*◌, ◌⊎◌, inl, inr, Bool, true, false, cond, List, [], ◌∷◌, ◌++◌, ◌+◌, refl, sym, ◌∙◌, ap, subst, arith}
use Rattle.std.specs.Prelude.{All, AllPairs, Any, Contains, Err, IfErr, IfSome, IsSome, None, Ok, Option, Result, Some, filter, is_some, map, max, option_map, pos, unwrap_or, ◌+ℤ◌}
use Rattle.std.proofs.lemmas.Bool.{and_parts, false≢true}
use Rattle.std.proofs.lemmas.List.{map-append}
use Rattle.std.proofs.lemmas.List.Elements.{All-contains, All-head, All-tail, Contains-append_cases, Contains-append_left, Contains-append_right}
use Rattle.elf_model.specs.Link.ArrayOrder.{placed_in_array_order}
use Rattle.elf_model.specs.Inputs.ArchiveFile.{IsArchive}
use Rattle.elf_model.specs.Own.Causes.{Cause, HasArchives, HasBadGroups, IsBadArchive, IsBadObject, IsToDropped, IsToMixed, IsUndefinedName, IsWithoutIndex, Reaches}
use Rattle.elf_model.specs.Inputs.Command.{Plan, command_of}
use Rattle.elf_model.specs.Link.Commons.{Block, block_piece, block_pieces, blocks, pieces}
use Rattle.elf_model.specs.Inputs.Files.{File}
use Rattle.elf_model.specs.Link.Groups.{AreLawfulGroups}
use Rattle.elf_model.specs.Link.Loading.{LoadedObject, loaded_objects}
use Rattle.elf_model.specs.Image.MapRecord.{CommonRow, PlaceRow}
use Rattle.elf_model.specs.Inputs.ObjectFile.{IsObject, ObjFaultStands, groups}
use Rattle.elf_model.specs.Inputs.Opening.{AreFilesThere, lacks_index, opened}
use Rattle.elf_model.specs.Link.Meaning.{Common, Linker, Meaning, Symbol, meaning_value}
use Rattle.elf_model.specs.Link.LinkerNames.{named_output}
use Rattle.elf_model.specs.Link.LinkerValues.{bound_value, end_of_pieces, is_code_piece, is_file_data, is_loaded_piece, is_zero_data, least_of, start_of_pieces}
use Rattle.elf_model.specs.Link.Pieces.{AreLawfulKinds, Piece, is_nobits, is_thread_piece, is_thread_zero, kept_sections, load_size, is_of_output}
use Rattle.elf_model.specs.Link.Placement.{IsPlaced, IsWithin, Placed, Where, got_end, got_things, headers_thing, is_of_section, is_thread_place, placed_block, placed_blocks, placed_by, range_of, symbol_value, thing_of, thread_ranges}
use Rattle.elf_model.specs.Link.Relocation.{AreFieldsApart, Formula, IsFieldInside, IsInRange, IsLawfulRelocation, IsThreadMismatch, Kind, Relocation, S+A, Z+A, definition_of, modulo_64, relocation_kind, relocations, whole_value}
use Rattle.elf_model.specs.Link.RelocationValues.{Fits, terms_of, value_of}
use Rattle.elf_model.specs.Link.Resolution.{AreSoundCommons, AreSoundSymbols, IsDuplicate, IsEntry, SymbolOf, is_absolute}
use Rattle.elf_model.specs.Image.RightLink.{AreRelocationsRight, AreSectionsListed, EntersRight, IsGotRight, IsLoaded, IsRightLink, Subject, facts_of_piece, facts_of_row, placed_of, sections_of, things_of, where_of}
use Rattle.elf_model.specs.declared.link_map.GotLine.{GotLine}
use Rattle.elf_model.specs.Link.Slots.{has_got}
use Rattle.elf_model.specs.declared.bound.Bound.{Bound}
use Rattle.elf_model.specs.declared.bound.Bound.TheVariants.{CodeEnd, DataEnd, GotStart, ImageEnd, ImageStart, OutputEnd, OutputStart, ZeroStart}
use Rattle.elf_model.specs.declared.faults.CmdFault.{CmdFault}
use Rattle.elf_model.specs.declared.faults.LinkError.{LinkError}
use Rattle.elf_model.specs.declared.faults.LinkError.TheVariants as error
use Rattle.elf_model.specs.declared.faults.ObjFault.{ObjFault}
use Rattle.elf_model.specs.declared.verdict.Clause.TheVariants.{C2, C3, C5, C7, C9, C12, C13}
use Rattle.elf_model.proofs.Finding.{find-none}
use Rattle.elf_model.proofs.Listed.{All-unmap, Contains-cons_cases, Contains-filter, Contains-from_map, Contains-here, Contains-map, Contains-nil, Contains-there}
use Rattle.command.proofs.Found.{same_ok}
use Rattle.ar_index.proofs.Steps as archive_faults
use Rattle.comdat.proofs.GroupFaultLemmas as group_faults
use Rattle.elf_model.proofs.LoadedItems.{item_loaded}
use Rattle.elf_read.proofs.Faults as object_faults
use Rattle.linker.specs.FinalRefusals.{DeniesLinks, HasNoAddress, HasNone, IsElsewhere, IsFinal, IsLayout, IsSettled, IsSettledBound, IsSettledMeaning, IsTooWide, NeverFits}

-- what stands of some element and what stands of all exclude each other
excluded : {X : Type 0} (P Q : X → Type 0) (xs : List X) → Any P xs → All Q xs → ((x : X) → P x → Q x → ⊥) → ⊥
excluded P Q xs some all not = not some.1 some.4 (All-contains Q xs some.1 all (some.0, some.2, some.3))

abbrev is_ok : Result Plan CmdFault → Bool
is_ok (Ok p) = true
is_ok (Err f) = false

-- a symbol without an address has the same value wherever pieces stand
abbrev IsApart : SymbolOf → Placed → Type 0
IsApart s q = is_of_section s.object s.entry.st_shndx q ≡ false

value_apart : (ps : List Placed) (s : SymbolOf) → All (IsApart s) ps → symbol_value ps s ≡ cond (is_absolute s.entry) s.entry.st_value 0
value_apart ps s none =
    ap (λ (o : Option Placed). cond (is_absolute s.entry) s.entry.st_value (unwrap_or (option_map (λ q. q.at + s.entry.st_value) o) 0))
    (find-none (is_of_section s.object s.entry.st_shndx) ps none)

-- where no piece passes a test, the end of those that do is 0, and their beginning is none
abbrev FailsAll : (Piece → Bool) → List Placed → Type 0
FailsAll test ps = All (λ p. test p ≡ false) (map (λ q. q.piece) ps)

no_end : (test : Piece → Bool) (ps : List Placed) → FailsAll test ps → end_of_pieces test ps ≡ 0
no_end test [] none = refl
no_end test (q ∷ qs) none =
    let here = All-head (λ p. test p ≡ false) q.piece (map (λ q. q.piece) qs) none in
    let more = no_end test qs (All-tail (λ p. test p ≡ false) q.piece (map (λ q. q.piece) qs) none) in
    ap (λ b. cond b (max (q.at + q.piece.size) (end_of_pieces test qs)) (end_of_pieces test qs)) here ∙ more

no_start : (test : Piece → Bool) (ps : List Placed) → FailsAll test ps → start_of_pieces test ps ≡ None
no_start test [] none = refl
no_start test (q ∷ qs) none =
    let here = All-head (λ p. test p ≡ false) q.piece (map (λ q. q.piece) qs) none in
    let more = no_start test qs (All-tail (λ p. test p ≡ false) q.piece (map (λ q. q.piece) qs) none) in
    ap (λ b. cond b (Some (least_of q.at (start_of_pieces test qs))) (start_of_pieces test qs)) here ∙ more

no_got : (got : Option GotLine) → is_some got ≡ false → got_end got ≡ 0
no_got None none = refl
no_got (Some g) none = absurd (false≢true (sym none))

-- a value that is settled is the same in two layouts
module _ (base : ℕ) (objects : List LoadedObject) (w v : Where) (of_w : IsLayout base objects w) (of_v : IsLayout base objects v) where
  fails_all : (u : Where) → IsLayout base objects u → (test : Piece → Bool) → HasNone test objects → FailsAll test u.placed
  fails_all u of_u test none = subst (λ (ps : List Piece). All (λ p. test p ≡ false) ps) (sym of_u.placed_are) none

  ends_at : (u : Where) → IsLayout base objects u → (test : Piece → Bool) → HasNone test objects → end_of_pieces test u.placed ≡ 0
  ends_at u of_u test none = no_end test u.placed (fails_all u of_u test none)

  starts_at : (u : Where) → IsLayout base objects u → (test : Piece → Bool) → HasNone test objects → unwrap_or (start_of_pieces test u.placed) 0 ≡ 0
  starts_at u of_u test none = ap (λ (o : Option ℕ). unwrap_or o 0) (no_start test u.placed (fails_all u of_u test none))

  ends_without_got :
      (u : Where) → IsLayout base objects u → (test : Piece → Bool) → HasNone test objects → has_got objects ≡ false →
      max (end_of_pieces test u.placed) (got_end u.got) ≡ 0
  ends_without_got u of_u test none bare =
      let end = ends_at u of_u test none in
      let got = no_got u.got (of_u.got_is ∙ bare) in
      ap (λ (x : ℕ). max x (got_end u.got)) end ∙ ap (λ (x : ℕ). max 0 x) got

  same_bound : (name : List ℕ) (bound : Bound) → IsSettledBound objects name bound → bound_value w name bound ≡ bound_value v name bound
  same_bound name ImageStart settled = of_w.base_is ∙ sym of_v.base_is
  same_bound name CodeEnd settled = ends_at w of_w is_code_piece settled ∙ sym (ends_at v of_v is_code_piece settled)
  same_bound name DataEnd settled =
      ends_without_got w of_w is_file_data settled.0 settled.1 ∙ sym (ends_without_got v of_v is_file_data settled.0 settled.1)
  same_bound name ZeroStart settled = starts_at w of_w is_zero_data settled ∙ sym (starts_at v of_v is_zero_data settled)
  same_bound name ImageEnd settled =
      ends_without_got w of_w is_loaded_piece settled.0 settled.1 ∙ sym (ends_without_got v of_v is_loaded_piece settled.0 settled.1)
  same_bound name GotStart settled = absurd settled
  same_bound name OutputStart settled =
      starts_at w of_w (is_of_output (named_output name)) settled ∙ sym (starts_at v of_v (is_of_output (named_output name)) settled)
  same_bound name OutputEnd settled =
      ends_at w of_w (is_of_output (named_output name)) settled ∙ sym (ends_at v of_v (is_of_output (named_output name)) settled)

  all_apart : (u : Where) → IsLayout base objects u → (s : SymbolOf) → All (IsElsewhere s) (pieces objects) → All (IsApart s) u.placed
  all_apart u of_u s none =
      All-unmap (IsElsewhere s) (λ (q : Placed). q.piece) u.placed (subst (λ (ps : List Piece). All (IsElsewhere s) ps) (sym of_u.placed_are) none)

  same_value : (s : SymbolOf) → HasNoAddress objects s → symbol_value w.placed s ≡ symbol_value v.placed s
  same_value s (inl absolute) = rw absolute refl
  same_value s (inr none) = value_apart w.placed s (all_apart w of_w s none) ∙ sym (value_apart v.placed s (all_apart v of_v s none))

  same_symbol :
      (d : Option Meaning) → IfSome d (IsSettledMeaning objects) →
      unwrap_or (option_map (meaning_value w) d) 0 ≡ unwrap_or (option_map (meaning_value v) d) 0
  same_symbol None settled = refl
  same_symbol (Some (Symbol s)) settled = same_value s settled
  same_symbol (Some (Common b)) settled = absurd settled
  same_symbol (Some (Linker name bound)) settled = same_bound name bound settled

  same_whole :
      (r : Relocation) (f : Formula) → IsSettled objects f (definition_of objects r.symbol) →
      whole_value f (terms_of objects w r) ≡ whole_value f (terms_of objects v r)
  same_whole r S+A settled = ap (λ (s : ℕ). pos s +ℤ r.entry.r_addend) (same_symbol (definition_of objects r.symbol) settled)
  same_whole r Z+A settled = refl
  same_whole r _ settled = absurd settled

  value_at :
      (u : Where) (r : Relocation) (k : Kind) → relocation_kind r ≡ Some k →
      value_of objects u r ≡ modulo_64 (whole_value k.formula (terms_of objects u r))
  value_at u r k is =
      ap (λ (known : Option Kind). unwrap_or (option_map (λ h. modulo_64 (whole_value h.formula (terms_of objects u r))) known) 0) is

  same_fit : (r : Relocation) (k : Kind) → relocation_kind r ≡ Some k → IsSettled objects k.formula (definition_of objects r.symbol) → Fits objects w r → Fits objects v r
  same_fit r k is settled fits =
      let same : value_of objects w r ≡ value_of objects v r = value_at w r k is ∙ (ap modulo_64 (same_whole r k.formula settled) ∙ sym (value_at v r k is)) in
      subst (λ (x : ℕ). IfSome (relocation_kind r) (λ k. IsInRange k.range (8 * k.width) x)) same fits

-- the pieces of a map's places are those that are placed
placed_again : (rows : List PlaceRow) (ps : List Piece) → map facts_of_row rows ≡ map facts_of_piece ps → map (λ q. q.piece) (placed_by rows ps) ≡ ps
placed_again [] [] listed = refl
placed_again [] (p ∷ ps) listed = absurd cc
placed_again (row ∷ rows) [] listed = absurd cc
placed_again (row ∷ rows) (p ∷ ps) listed = ap (λ (qs : List Piece). p ∷ qs) (placed_again rows ps cc)

blocks_again : (rows : List CommonRow) (bs : List Block) → map (λ q. q.piece) (placed_blocks rows bs) ≡ map block_piece bs
blocks_again rows [] = refl
blocks_again rows (b ∷ bs) = ap (λ (qs : List Piece). block_piece b ∷ qs) (blocks_again rows bs)

-- each piece has a place
placed_at : (rows : List PlaceRow) (ps : List Piece) (p : Piece) → map facts_of_row rows ≡ map facts_of_piece ps → Contains ps p
    → (at : ℕ) × Contains (placed_by rows ps) (record { at = at; piece = p })
placed_at rows [] p listed c = absurd (Contains-nil p c)
placed_at [] (q ∷ ps) p listed c = absurd cc
placed_at (row ∷ rows) (q ∷ ps) p listed c = by (Contains-cons_cases q ps p c) (placed_at rows ps p cc)
  where
    first : Placed
    first = record { at = row.address; piece = q }

    more : (at : ℕ) × Contains (placed_by rows ps) (record { at = at; piece = p })
        → (at : ℕ) × Contains (first ∷ placed_by rows ps) (record { at = at; piece = p })
    more there = (there.0, Contains-there first (placed_by rows ps) (record { at = there.0; piece = p }) there.1)

    by : (q ≡ p) ⊎ Contains ps p → (Contains ps p → (at : ℕ) × Contains (placed_by rows ps) (record { at = at; piece = p }))
        → (at : ℕ) × Contains (first ∷ placed_by rows ps) (record { at = at; piece = p })
    by (inl e) rest = (row.address, subst (λ (x : Piece). Contains (first ∷ placed_by rows ps) (record { at = row.address; piece = x })) e (Contains-here (placed_by rows ps) first))
    by (inr there) rest = more (rest there)

module _ (files : List File) (words : List (List ℕ)) (image text : List ℕ) (l : IsRightLink files words image text) where
  abbrev subject : Subject
  subject = record { plan = l.plan; files = files; image = image; map = l.map }

  abbrev objects : List LoadedObject
  objects = loaded_objects files l.plan

  loaded : IsLoaded subject
  loaded = l.holds C2

  listed : AreSectionsListed subject
  listed = l.holds C3

  placed : IsPlaced l.plan.base (things_of subject) (thread_ranges (placed_of subject)) (placed_in_array_order (sections_of subject))
  placed = l.holds C5

  got_right : IsGotRight subject
  got_right = l.holds C7

  referred : AreRelocationsRight subject
  referred = l.holds C9

  -- what the map says is a layout
  mapped : IsLayout l.plan.base objects (where_of subject)
  mapped = record {
    base_is = refl;
    placed_are =
        map-append (λ (q : Placed). q.piece) (sections_of subject) (placed_blocks l.map.commons (blocks objects))
        ∙ (ap (λ (qs : List Piece). qs ++ map (λ q. q.piece) (placed_blocks l.map.commons (blocks objects)))
        (placed_again l.map.places (kept_sections objects) listed.places)
        ∙ ap (λ (qs : List Piece). kept_sections objects ++ qs) (blocks_again l.map.commons (blocks objects)));
    got_is = got_right.present;
  }

  enters : EntersRight subject
  enters = l.holds C12

  -- what stands of the plan of the words stands of the link's
  of_plan : (P : Plan → Type 0) (p : Plan) → command_of words ≡ Ok p → P p → P l.plan
  of_plan P p is here = subst P (same_ok l.plan p (sym l.read.plan ∙ is)) here

  deny_relocation :
      (Stands : List LoadedObject → Relocation → Type 0) (p : Plan) → command_of words ≡ Ok p
      → Any (Stands (loaded_objects files p)) (relocations (loaded_objects files p))
      → ((r : Relocation) → Stands objects r → IsLawfulRelocation objects r → ⊥) → ⊥
  deny_relocation Stands p is some not =
      excluded (Stands objects) (IsLawfulRelocation objects) (relocations objects)
      (of_plan (λ q. Any (Stands (loaded_objects files q)) (relocations (loaded_objects files q))) p is some) referred.lawful.each not

  -- a piece that is too wide has no place
  too_wide : (q : Piece) → Contains (pieces objects) q → IsTooWide l.plan.base q → ⊥
  too_wide q there wide =
      let place = somewhere (Contains-append_cases (kept_sections objects) (block_pieces objects) q there) in
      let here : Placed = record { at = place.0; piece = q } in
      bounded here place.1 (is_thread_zero q) refl refl
    where
      ofs : List Placed
      ofs = placed_blocks l.map.commons (blocks objects)

      somewhere : Contains (kept_sections objects) q ⊎ Contains (block_pieces objects) q → (at : ℕ) × Contains (placed_of subject) (record { at = at; piece = q })
      somewhere (inl kept) =
          let place = placed_at l.map.places (kept_sections objects) q listed.places kept in
          (place.0, Contains-append_left (sections_of subject) ofs (record { at = place.0; piece = q }) place.1)
      somewhere (inr block) =
          let image = Contains-from_map block_piece (blocks objects) q block in
          let here = placed_block l.map.commons image.of in (
            here.at,
            Contains-append_right (sections_of subject) ofs (record { at = here.at; piece = q })
                (subst (λ (p : Piece). Contains ofs (record { at = here.at; piece = p })) image.is
                (Contains-map (placed_block l.map.commons) (blocks objects) image.of image.there)),
          )

      thing_there : (h : Placed) → Contains (placed_of subject) h → Contains (things_of subject) (thing_of h)
      thing_there h c =
          Contains-there (headers_thing image) (got_things l.map.got ++ map thing_of (placed_of subject)) (thing_of h)
          (Contains-append_right (got_things l.map.got) (map thing_of (placed_of subject)) (thing_of h) (Contains-map thing_of (placed_of subject) h c))

      -- of a thread-local piece without bytes the range is bounded, of another one its memory
      bounded : (h : Placed) → Contains (placed_of subject) h → (b : Bool) → is_thread_zero h.piece ≡ b → h.piece ≡ q → ⊥
      bounded h c true bare same =
          let t = (and_parts (is_thread_piece h.piece) (is_nobits h.piece.header) bare).0 in
          let within = All-contains (IsWithin l.plan.base) (thread_ranges (placed_of subject)) (range_of h) placed.threads_within
          (Contains-map range_of (filter is_thread_place (placed_of subject)) h (Contains-filter is_thread_place (placed_of subject) h c t)) in
          let size = ap (λ (p : Piece). p.size) same in
          let low = within.0 in
          let high = within.1 in
          omega (arith, low, high, wide, size)
      bounded h c false whole same =
          let within = All-contains (IsWithin l.plan.base) (things_of subject) (thing_of h) placed.within (thing_there h c) in
          let full : load_size h.piece ≡ h.piece.size = ap (λ b. cond b 0 h.piece.size) whole in
          let size = ap (λ (p : Piece). p.size) same in
          let low = within.0 in
          let high = within.1 in
          omega (arith, low, high, wide, full, size)

  -- what makes BadObject: an object item, or an object that loading reaches
  abbrev BadlyLoaded : ObjFault → Plan → Type 0
  BadlyLoaded fault p = Any (IsBadObject fault) (opened files p) ⊎ (HasArchives files words p × Reaches (loaded_objects files p) (λ o. ObjFaultStands o.bytes fault))

  reached_there : {Stands : LoadedObject → Type 0} (r : Reaches objects Stands) → Contains objects r.reached
  reached_there r =
      subst (λ (os : List LoadedObject). Contains os r.reached) (sym r.order)
      (Contains-append_right r.front (r.reached ∷ r.rest) r.reached (Contains-here r.rest r.reached))

  deny : (e : LinkError) → Cause files words e → IsFinal files words e → ⊥
  deny error.Memory c f = f
  deny (error.Command fault) c f = false≢true (ap is_ok (sym c ∙ l.read.plan))
  deny error.FileMissing c f = of_plan (λ p. ¬ AreFilesThere files p) c.0 c.1 c.2 loaded.files
  deny (error.BadObject fault) c f = bad_object (of_plan (BadlyLoaded fault) c.0 c.1.words_are c.3)
    where
      bad_object : BadlyLoaded fault l.plan → ⊥
      bad_object (inl item) =
          let here : IsBadObject fault item.1 = item.4 in
          let x = item_loaded files l.plan item.1 here.0 (item.0, item.2, item.3) in
          c.2 (object_faults.only item.1.bytes fault (subst IsObject x.1 (All-contains (λ o. IsObject o.bytes) objects x.0 loaded.objects x.2)) here.1)
      bad_object (inr reach) =
          let o = reach.1.reached in
          c.2 (object_faults.only o.bytes fault (All-contains (λ x. IsObject x.bytes) objects o loaded.objects (reached_there reach.1)) reach.1.stands)
  deny (error.BadArchive fault) c f =
      excluded (IsBadArchive fault) (λ o. o.archive ≡ true → IsArchive o.bytes) (opened files l.plan)
      (of_plan (λ p. Any (IsBadArchive fault) (opened files p)) c.0 c.1.words_are c.3) loaded.archives
      (λ o stands good. c.2 (archive_faults.only o.bytes fault (good stands.0) stands.1))
  deny error.NoIndex c f =
      excluded IsWithoutIndex (λ o. o.archive ≡ true → lacks_index o ≡ false) (opened files l.plan)
      (of_plan (λ p. Any IsWithoutIndex (opened files p)) c.0 c.1.words_are c.2) loaded.indexes
      (λ o stands good. false≢true (sym (good stands.0) ∙ stands.2))
  deny (error.BadGroup fault) c f =
      let reach = of_plan (λ p. Reaches (loaded_objects files p) (HasBadGroups fault)) c.0 c.1.before.words_are c.3 in
      let o = reach.reached in
      c.2 (group_faults.only (groups o.bytes) fault (All-contains (λ x. AreLawfulGroups (groups x.bytes)) objects o loaded.groups (reached_there reach)) reach.stands.1)
  deny error.SectionKind c f = of_plan (λ p. ¬ AreLawfulKinds (loaded_objects files p)) c.0 c.1.before.before.words_are c.2 listed.kinds
  deny (error.Duplicate name) c f =
      let twice = of_plan (λ p. IsDuplicate (loaded_objects files p) name.items) c.0 c.1.before.before.words_are c.2 in
      let once = (l.holds C13).unique name.items in
      omega (arith, twice, once)
  deny error.BadCommon c f = of_plan (λ p. ¬ AreSoundCommons (loaded_objects files p)) c.0 c.1.before.before.words_are c.2 listed.sound
  deny error.BadSymbol c f = of_plan (λ p. ¬ AreSoundSymbols (loaded_objects files p)) c.0 c.1.before.before.words_are c.2 (l.holds C13).sound
  deny (error.Undefined name) c f =
      deny_relocation (IsUndefinedName name.items) c.0 c.1.before.before.before.words_are c.2 (λ r stands lawful. lawful.defined stands.1)
  deny error.RefToDropped c f =
      deny_relocation IsToDropped c.0 c.1.before.before.before.words_are c.2 (λ r stands lawful. lawful.kept stands.1)
  deny error.RelocKind c f =
      deny_relocation (λ os r. relocation_kind r ≡ None) c.0 c.1.before.before.before.words_are c.2
      (λ r stands lawful. false≢true (subst IsSome stands lawful.known))
  deny error.FieldOutside c f =
      deny_relocation (λ os r. ¬ IsFieldInside r) c.0 c.1.before.before.before.words_are c.2 (λ r stands lawful. stands lawful.inside)
  deny error.OverlappingFields c f =
      of_plan (λ p. ¬ AllPairs AreFieldsApart (relocations (loaded_objects files p))) c.0 c.1.before.before.before.words_are c.2 referred.lawful.apart
  deny error.TlsMismatch c f =
      deny_relocation IsThreadMismatch c.0 c.1.before.before.before.words_are c.2 (λ r stands lawful. lawful.thread stands)
  deny error.MixedSection c f =
      deny_relocation IsToMixed c.0 c.1.before.before.before.words_are c.2 (λ r stands lawful. lawful.unmixed stands.1)
  deny error.NoEntry c f =
      of_plan (λ p. ¬ IsEntry (loaded_objects files p) p.entry) c.0 c.1.before.before.before.words_are c.2 enters.0
  deny error.TooLarge c f =
      let wide : Any (IsTooWide l.plan.base) (pieces objects) = of_plan (λ p. Any (IsTooWide p.base) (pieces (loaded_objects files p))) f.0 f.1 f.2 in
      too_wide wide.1 (wide.0, wide.2, wide.3) wide.4
  deny error.Overflow c f =
      excluded (NeverFits l.plan.base objects) (Fits objects (where_of subject)) (relocations objects)
      (of_plan (λ p. Any (NeverFits p.base (loaded_objects files p)) (relocations (loaded_objects files p))) f.0 f.1 f.2) referred.fits
      (λ r never fits. never.unfit (same_fit l.plan.base objects (where_of subject) never.layout mapped never.is_layout r never.kind never.kind_is never.settled fits))

pub denies_links : (files : List File) (words : List (List ℕ)) (e : LinkError) → Cause files words e → DeniesLinks files words e
denies_links files words e cause final image text l = deny files words image text l e cause final

-- what is answered with a cause is final where it may be
pub finals : {X : Type 0} (files : List File) (words : List (List ℕ)) (r : Result X LinkError) → IfErr r (Cause files words) → IfErr r (DeniesLinks files words)
finals files words (Ok x) c = tt
finals files words (Err e) c = denies_links files words e c

-- want of memory denies nothing
pub no_memory :
    {X : Type 0} (files : List File) (words : List (List ℕ)) (r : Result X LinkError) → (e : LinkError) × (r ≡ Err e) × (e ≡ error.Memory) →
    IfErr r (DeniesLinks files words)
no_memory {X} files words r p =
    subst (λ (s : Result X LinkError). IfErr s (DeniesLinks files words)) (sym (p.1 ∙ ap (λ (e : LinkError). Err e) p.2)) (λ final. absurd final)

-- want of memory has no cause to be told
pub memory_cause :
    {X : Type 0} (files : List File) (words : List (List ℕ)) (r : Result X LinkError) → (e : LinkError) × (r ≡ Err e) × (e ≡ error.Memory) →
    IfErr r (Cause files words)
memory_cause {X} files words r p =
    subst (λ (s : Result X LinkError). IfErr s (Cause files words)) (sym (p.1 ∙ ap (λ (e : LinkError). Err e) p.2)) tt
