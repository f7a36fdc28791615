-- The pieces that memory has a place for, among all things of the own layout: the others take up nothing, so what is asked
-- of nonempty things, and of what things cover, is asked of these.
use Rattle.std.proofs.Common.{◌≡◌, ◌⊎◌, inl, inr, ℕ, ◌+◌, ◌<◌, ◌≤◌, true, false, cond, List, map, refl, sym, ◌∙◌, ap, subst, arith}
use Rattle.std.specs.Prelude.{All, Any, Contains, Option}
use Rattle.std.proofs.lemmas.Bool.{false≢true}
use Rattle.std.proofs.lemmas.List.Elements.{All-contains, All-cons, Contains-append_cases, Contains-append_left}
use Rattle.elf_model.specs.Link.Loading.{LoadedObject}
use Rattle.elf_model.specs.Image.MemoryImage.{loads}
use Rattle.elf_model.specs.Own.OwnLayout.{got_piece, own_headers_size, own_loaded, own_placed, own_thread_rest}
use Rattle.elf_model.specs.Link.Pieces.{AreLawfulKinds, is_thread_zero, load_size}
use Rattle.elf_model.specs.Link.Placement.{Covers, Placed, range_of, thing_of}
use Rattle.elf_model.specs.Image.RightLink.{EndsRight, HasNothingElse, IsOfSegment}
use Rattle.elf_model.specs.Link.Slots.{has_got}
use Rattle.elf_model.specs.declared.link_map.SymtabLine.{SymtabLine}
use Rattle.elf_model.specs.declared.records.ProgramHeader.{ProgramHeader}
use Rattle.elf_model.specs.declared.thing.Thing.{Thing}
use Rattle.elf_model.proofs.Finding.{Any-from_contains}
use Rattle.elf_model.proofs.Listed.{All-from_contains, Contains-cons_cases, Contains-from_map, Contains-here, Contains-map, Contains-there}
use Rattle.elf_model.proofs.Places.{InThreadRest, are_own_placed, at_own_address, got_listed, own_thread_rest_within}
use Rattle.own_link.proofs.OwnGot.{got_there}
use Rattle.own_link.proofs.OwnThings.{laid_out_stood, own_headers_at, own_stood, own_things_of, stood_listed, things_in}

-- What is asked of some things is asked of others: the nonempty ones of these are among them, and all of them among these.
record AreThingsOf (ts us : List Thing) : Type 0 where
  listed : (t : Thing) → Contains ts t → 0 < t.size → Contains us t
  all : (u : Thing) → Contains us u → Contains ts u

module _ (ts us : List Thing) (of : AreThingsOf ts us) where
  any_of : (P : Thing → Type 0) → Any P us → Any P ts
  any_of P found = Any-from_contains P ts found.1 (of.all found.1 (found.0, found.2, found.3)) found.4

  ends_of : (h : ProgramHeader) → EndsRight us h → EndsRight ts h
  ends_of h e = record {
    memory = any_of (λ t. IsOfSegment h t × (t.at + t.size ≡ h.p_vaddr + h.p_memsz)) e.memory;
    file_holds =
        All-from_contains (λ t. IsOfSegment h t → t.in_file ≡ true → t.at + t.size ≤ h.p_vaddr + h.p_filesz) ts (λ t c inside bytes.
        All-contains (λ u. IsOfSegment h u → u.in_file ≡ true → u.at + u.size ≤ h.p_vaddr + h.p_filesz) us t e.file_holds
        (of.listed t c inside.some_bytes) inside bytes);
    file_ends = λ some. any_of (λ t. IsOfSegment h t × (t.in_file ≡ true) × (t.at + t.size ≡ h.p_vaddr + h.p_filesz)) (e.file_ends some);
  }

  nothing_else_of : (image : List ℕ) (symtab : Option SymtabLine) → HasNothingElse image symtab us → HasNothingElse image symtab ts
  nothing_else_of image symtab n = record {
    fill = λ a c m out.
        n.fill a c m (All-from_contains (λ u. Covers u a → ⊥) us (λ u there. All-contains (λ t. Covers t a → ⊥) ts u out (of.all u there)));
    segments =
        All-from_contains (EndsRight ts) (loads image) (λ h c. ends_of h (All-contains (EndsRight us) (loads image) h n.segments c));
    gaps = n.gaps;
    end = n.end;
  }

  nonempty_of : (P : Thing → Type 0) → All (λ u. 0 < u.size → P u) us → All (λ t. 0 < t.size → P t) ts
  nonempty_of P each =
      All-from_contains (λ t. 0 < t.size → P t) ts (λ t c some. All-contains (λ u. 0 < u.size → P u) us t each (of.listed t c some) some)

-- a piece that takes up its size is the thing of its range
thing_whole : (q : Placed) → is_thread_zero q.piece ≡ false → thing_of q ≡ range_of q
thing_whole q whole =
    let same : load_size q.piece ≡ q.piece.size = ap (λ b. cond b 0 q.piece.size) whole in
    λ i. record { at = q.at; size = same i; align = (range_of q).align; rights = (range_of q).rights; in_file = (range_of q).in_file }

module _ (base : ℕ) (objects : List LoadedObject) (kinds : AreLawfulKinds objects) where
  -- memory has a place for a piece unless that is thread-local without bytes
  loaded_unless : (q : Placed) → Contains (own_placed base objects) q → (is_thread_zero q.piece ≡ true → ⊥) → Contains (own_loaded base objects) q
  loaded_unless q c bare = by (Contains-append_cases (own_loaded base objects) (own_thread_rest base objects) q c)
    where
      by : Contains (own_loaded base objects) q ⊎ Contains (own_thread_rest base objects) q → Contains (own_loaded base objects) q
      by (inl loaded) = loaded
      by (inr rest) = absurd (bare (All-contains (InThreadRest base objects) (own_thread_rest base objects) q (own_thread_rest_within base objects) rest).1)

  -- so for one of which it has a byte
  pub loaded_by_size : (q : Placed) → Contains (own_placed base objects) q → 0 < load_size q.piece → Contains (own_loaded base objects) q
  loaded_by_size q c some =
      loaded_unless q c (λ bare. let none : load_size q.piece ≡ 0 = ap (λ b. cond b 0 q.piece.size) bare in omega (arith, none, some))

  pub loaded_whole_place : (q : Placed) → Contains (own_placed base objects) q → is_thread_zero q.piece ≡ false → Contains (own_loaded base objects) q
  loaded_whole_place q c whole = loaded_unless q c (λ bare. false≢true (sym whole ∙ bare))

  pub got_loaded : has_got objects ≡ true → Contains (own_loaded base objects) (at_own_address base objects (got_piece objects))
  got_loaded there =
      loaded_whole_place (at_own_address base objects (got_piece objects))
      (got_listed base objects kinds (got_piece objects) (got_there objects there)) refl

  loaded_is_whole : (q : Placed) → Contains (own_loaded base objects) q → is_thread_zero q.piece ≡ false
  loaded_is_whole q c = All-contains (λ (r : Placed). is_thread_zero r.piece ≡ false) (own_loaded base objects) q (are_own_placed base objects kinds).whole c

  abbrev loaded_things : List Thing
  loaded_things = things_in base (own_headers_size objects) (own_loaded base objects)

  are_things_of : AreThingsOf (own_things_of base objects) loaded_things
  are_things_of = record {
    listed = λ t c some. into t some (Contains-cons_cases (own_headers_at base objects) (map thing_of (own_stood base objects)) t c);
    all = λ u c. back u (Contains-cons_cases (own_headers_at base objects) (map range_of (own_loaded base objects)) u c);
  }
    where
      into : (t : Thing) → 0 < t.size → (own_headers_at base objects ≡ t) ⊎ Contains (map thing_of (own_stood base objects)) t → Contains loaded_things t
      into t some (inl e) = subst (Contains loaded_things) e (Contains-here (map range_of (own_loaded base objects)) (own_headers_at base objects))
      into t some (inr there) =
          let i = Contains-from_map thing_of (own_stood base objects) t there in
          let size : 0 < load_size i.of.piece = subst (λ (u : Thing). 0 < u.size) (sym i.is) some in
          let loaded = loaded_by_size i.of (stood_listed base objects kinds i.of i.there) size in
          let same : range_of i.of ≡ t = sym (thing_whole i.of (loaded_is_whole i.of loaded)) ∙ i.is in
          Contains-there (own_headers_at base objects) (map range_of (own_loaded base objects)) t
          (subst (Contains (map range_of (own_loaded base objects))) same (Contains-map range_of (own_loaded base objects) i.of loaded))

      back : (u : Thing) → (own_headers_at base objects ≡ u) ⊎ Contains (map range_of (own_loaded base objects)) u → Contains (own_things_of base objects) u
      back u (inl e) = subst (Contains (own_things_of base objects)) e (Contains-here (map thing_of (own_stood base objects)) (own_headers_at base objects))
      back u (inr there) =
          let i = Contains-from_map range_of (own_loaded base objects) u there in
          let stood = laid_out_stood base objects kinds i.of
          ((are_own_placed base objects kinds).all i.of (Contains-append_left (own_loaded base objects) (own_thread_rest base objects) i.of i.there)) in
          let same : thing_of i.of ≡ u = thing_whole i.of (loaded_is_whole i.of i.there) ∙ i.is in
          Contains-there (own_headers_at base objects) (map thing_of (own_stood base objects)) u
          (subst (Contains (map thing_of (own_stood base objects))) same (Contains-map thing_of (own_stood base objects) i.of stood))

  pub all_has_nothing_else :
      (image : List ℕ) (symtab : Option SymtabLine) → HasNothingElse image symtab loaded_things → HasNothingElse image symtab (own_things_of base objects)
  all_has_nothing_else image symtab n = nothing_else_of (own_things_of base objects) loaded_things are_things_of image symtab n

  pub nonempty_of_all :
      (P : Thing → Type 0) → (0 < (own_headers_at base objects).size → P (own_headers_at base objects)) →
      All (λ q. 0 < (range_of q).size → P (range_of q)) (own_loaded base objects) → All (λ t. 0 < t.size → P t) (own_things_of base objects)
  nonempty_of_all P headers each =
      nonempty_of (own_things_of base objects) loaded_things are_things_of P
      (All-cons (λ t. 0 < t.size → P t) (own_headers_at base objects) (map range_of (own_loaded base objects)) headers
      (All-from_contains (λ t. 0 < t.size → P t) (map range_of (own_loaded base objects)) (λ t c.
      let i = Contains-from_map range_of (own_loaded base objects) t c in
      subst (λ (u : Thing). 0 < u.size → P u) i.is
      (All-contains (λ q. 0 < (range_of q).size → P (range_of q)) (own_loaded base objects) i.of each i.there))))
