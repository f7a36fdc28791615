-- Sections of debug data, each with the zeros in front of it, fill the file from where they begin up to where they end.
use Rattle.std.proofs.Common.{◌≡◌, ◌∙◌, ◌+◌, ◌-◌, ◌≤◌, ◌<◌, ◌++◌, ℕ, List, [], ◌∷◌, ap, append_assoc, arith, drop, drop_at, length, refl, subst, sym, take, take_at}
use Rattle.std.specs.Prelude.{◌^◌, All, Bool, None, Option, Some, cond, nat_le, replicate, true, unwrap_or}
use Rattle.std.specs.Str.{bytes_eq}
use Rattle.std.proofs.lemmas.Bool.{false≢true}
use Rattle.std.proofs.lemmas.Grind.{flat_map-append}
use Rattle.std.proofs.lemmas.List.{drop-drop, length-replicate}
use Rattle.byteview.specs.Numbers.{part}
use Rattle.std.proofs.lemmas.List.Elements.{All-cons, All-head, All-nil, All-tail}
use Rattle.elf_model.specs.Link.Loading.{LoadedObject}
use Rattle.elf_model.specs.Link.Pieces.{Piece}
use Rattle.elf_model.specs.Link.Placement.{Placed, round_up}
use Rattle.std.proofs.Math.Nat.{le-max_left}
use Rattle.std.proofs.lemmas.Option.{none-some, same_Some}
use Rattle.std.specs.List.{cons_option, filter_map, flat_map}
use Rattle.elf_model.specs.Inputs.ObjectFile.{section, sections}
use Rattle.debug_image.specs.ObjectSections.{numbers}
use Rattle.debug_image.specs.Symbols.{piece_in}
use Rattle.elf_model.proofs.Running.{rounded_up}
use Rattle.debug_image.specs.DebugSections.{Chunk, Joined, alignment, chunks_of, data_end, debug_end, debug_piece, debug_pieces, debug_rows, empty, grown, holds_debug_data, is_flagged, joined_all, joined_from, joined_of, joined_with, left_flags, named, named_chunks, place_in, places_from, replaced, row_chunks, row_end, rows_from, size_of, start_of}
use Rattle.debug_law.proofs.JoinedNames.{AreApart, apart_all, both, found, found_all, joined_other, joined_own, same_name}

-- how many bytes sections have with the zeros in front of them
abbrev pub chunks_size : List Chunk → ℕ
chunks_size [] = 0
chunks_size (c ∷ cs) = c.pad + size_of c.place.piece + chunks_size cs

chunks_both : (cs ds : List Chunk) → chunks_size (cs ++ ds) ≡ chunks_size cs + chunks_size ds
chunks_both [] ds = omega arith
chunks_both (c ∷ cs) ds = let e = chunks_both cs ds in omega (arith, e)

-- the file is filled up to where what is joined of a name ends; where that is nothing, up to its beginning at most
abbrev Reached : ℕ → ℕ → Option Joined → Type 0
Reached start y None = y ≤ start
Reached start y (Some j) = y ≡ start + j.end

-- an alignment isn't 0
abbrev IsAligned : Piece → Type 0
IsAligned p = 0 < p.align

-- so many sections of a name fill the file up to an offset
record Fills (start y : ℕ) (cs : List Chunk) (o : Option Joined) : Type 0 where
  to : ℕ
  size : chunks_size cs + y ≡ to
  reached : Reached start to o

aligned : (p : Piece) → IsAligned p → 0 < alignment p
aligned p some = both (λ b. 0 < cond b p.align 1) (nat_le p.align (2 ^ 21)) (λ e. some) (λ e. omega arith)

-- a section lies behind what there is of its name
not_before : (start y : ℕ) (n : List ℕ) (o : Option Joined) (p : Piece) → IsAligned p → Reached start y o → y ≤ start + round_up (alignment p) (unwrap_or o (empty n)).end
not_before start y n None p some e = let r = (rounded_up (alignment p) 0 (aligned p some)).0 in omega (arith, e, r)
not_before start y n (Some j) p some e = let r = (rounded_up (alignment p) j.end (aligned p some)).0 in omega (arith, e, r)

row_fills :
    (n : List ℕ) (start y : ℕ) (js : List Joined) (ps : List Piece) → All IsAligned ps → Reached start y (found js n) →
    (chunks_size (row_chunks n start y (places_from js ps)) + y ≡ row_end n start y (places_from js ps))
    × Reached start (row_end n start y (places_from js ps)) (found (joined_all js ps) n)
row_fills n start y js [] some e = (omega arith, e)
row_fills n start y js (p ∷ ps) some e =
    let more : List Joined = joined_with js p in
    let q : Placed = place_in js p in
    both (λ b. bytes_eq p.name n ≡ b →
    (chunks_size (cond b (record { pad = start + q.at - y; place = q } ∷ row_chunks n start (start + debug_end q) (places_from more ps)) (row_chunks n start y (places_from more ps))) + y
    ≡ cond b (row_end n start (start + debug_end q) (places_from more ps)) (row_end n start y (places_from more ps)))
    × Reached start (cond b (row_end n start (start + debug_end q) (places_from more ps)) (row_end n start y (places_from more ps))) (found (joined_all more ps) n))
    (bytes_eq p.name n)
    (λ t u.
    let is : p.name ≡ n = same_name p.name n t in
    let behind : y ≤ start + q.at = not_before start y p.name (found js p.name) p (All-head IsAligned p ps some) (subst (λ m. Reached start y (found js m)) (sym is) e) in
    let there : Reached start (start + debug_end q) (found more n) =
    subst (λ m. Reached start (start + debug_end q) (found more m)) is (subst (Reached start (start + debug_end q)) (sym (joined_own js p)) refl) in
    let rest = row_fills n start (start + debug_end q) more ps (All-tail IsAligned p ps some) there in
    (let r = rest.0 in omega (arith, r, behind), rest.1))
    (λ f u. row_fills n start y more ps (All-tail IsAligned p ps some) (subst (Reached start y) (sym (joined_other js p n f)) e))
    refl

-- what holds of each section of an object holds of those of debug data
some_each : (P : Piece → Type 0) (f : ℕ → Option Piece) → ((i : ℕ) (p : Piece) → f i ≡ Some p → P p) → (is : List ℕ) → All P (filter_map f is)
some_each P f each [] = All-nil P
some_each P f each (i ∷ is) = with_one (f i) (filter_map f is) (each i) (some_each P f each is)
  where
    with_one : (o : Option Piece) (ps : List Piece) → ((p : Piece) → o ≡ Some p → P p) → All P ps → All P (cons_option o ps)
    with_one None ps own rest = rest
    with_one (Some p) ps own rest = All-cons P p ps (own p refl) rest

one_each : (P : Piece → Type 0) (k : ℕ) (o : LoadedObject) → ((i : ℕ) → P (piece_in k i o)) → (i : ℕ) (p : Piece) → debug_piece k o i ≡ Some p → P p
one_each P k o each i p e =
    both (λ b. cond b (Some (piece_in k i o)) None ≡ Some p → P p) (holds_debug_data o i)
    (λ t u. subst P (same_Some (piece_in k i o) p u) (each i))
    (λ f u. absurd (none-some p u)) e

pub pieces_each : (P : Piece → Type 0) (flags : List Bool) (k : ℕ) (o : LoadedObject) → ((i : ℕ) → P (piece_in k i o)) → All P (debug_pieces flags k o)
pieces_each P flags k o each =
    both (λ b. All P (cond b [] (filter_map (debug_piece k o) (numbers o)))) (is_flagged flags k) (λ t. All-nil P)
    (λ f. some_each P (debug_piece k o) (one_each P k o each) (numbers o))

-- they are aligned
pieces_aligned : (flags : List Bool) (k : ℕ) (o : LoadedObject) → All IsAligned (debug_pieces flags k o)
pieces_aligned flags k o = pieces_each IsAligned flags k o (λ i. le-max_left 1 (section (sections o.bytes) i).sh_addralign)

-- those of all objects
abbrev named_end : List ℕ → ℕ → ℕ → List (List Placed) → ℕ
named_end n start y [] = y
named_end n start y (row ∷ rows) = named_end n start (row_end n start y row) rows

rows_fill :
    (n : List ℕ) (start y : ℕ) (flags : List Bool) (js : List Joined) (k : ℕ) (os : List LoadedObject) → Reached start y (found js n) →
    (chunks_size (named_chunks n start y (rows_from flags js k os)) + y ≡ named_end n start y (rows_from flags js k os))
    × Reached start (named_end n start y (rows_from flags js k os)) (found (joined_from flags js k os) n)
rows_fill n start y flags js k [] e = (omega arith, e)
rows_fill n start y flags js k (o ∷ os) e =
    let ps : List Piece = debug_pieces flags k o in
    let row = row_fills n start y js ps (pieces_aligned flags k o) e in
    let next : ℕ = row_end n start y (places_from js ps) in
    let rest = rows_fill n start next flags (joined_all js ps) (k + 1) os row.1 in
    let parts = chunks_both (row_chunks n start y (places_from js ps)) (named_chunks n start next (rows_from flags (joined_all js ps) (k + 1) os)) in
    (let a = row.0 in let b = rest.0 in omega (arith, a, b, parts), rest.1)

-- what is joined is aligned
abbrev IsPositive : Joined → Type 0
IsPositive j = 0 < j.align

found_positive : (js : List Joined) (n : List ℕ) → All IsPositive js → 0 < (named js n).align
found_positive [] n all = omega arith
found_positive (i ∷ is) n all =
    both (λ b. 0 < (unwrap_or (cond b (Some i) (found is n)) (empty n)).align) (bytes_eq i.title n) (λ t. All-head IsPositive i is all)
    (λ f. found_positive is n (All-tail IsPositive i is all))

pub replaced_each : (P : Joined → Type 0) (js : List Joined) (j : Joined) → All P js → P j → All P (replaced js j)
replaced_each P [] j all own = All-cons P j [] own (All-nil P)
replaced_each P (i ∷ is) j all own =
    both (λ b. All P (cond b (j ∷ is) (i ∷ replaced is j))) (bytes_eq i.title j.title)
    (λ t. All-cons P j is own (All-tail P i is all))
    (λ f. All-cons P i (replaced is j) (All-head P i is all) (replaced_each P is j (All-tail P i is all) own))

grown_positive : (j : Joined) (p : Piece) → IsPositive j → IsPositive (grown j p)
grown_positive j p own = let m = le-max_left j.align (alignment p) in omega (arith, own, m)

joined_positive : (js : List Joined) (ps : List Piece) → All IsPositive js → All IsPositive (joined_all js ps)
joined_positive js [] all = all
joined_positive js (p ∷ ps) all =
    joined_positive (joined_with js p) ps (replaced_each IsPositive js (grown (named js p.name) p) all (grown_positive (named js p.name) p (found_positive js p.name all)))

-- all that is joined has a name and an alignment of its own
record AreOwn (js : List Joined) : Type 0 where
  apart : AreApart js
  positive : All IsPositive js

objects_own : (flags : List Bool) (js : List Joined) (k : ℕ) (os : List LoadedObject) → AreOwn js → AreOwn (joined_from flags js k os)
objects_own flags js k [] own = own
objects_own flags js k (o ∷ os) own =
    objects_own flags (joined_all js (debug_pieces flags k o)) (k + 1) os
    (record { apart = apart_all js (debug_pieces flags k o) own.apart; positive = joined_positive js (debug_pieces flags k o) own.positive })

names_fill :
    (objects : List LoadedObject) (y : ℕ) (js : List Joined) → All (λ j. found (joined_of objects) j.title ≡ Some j) js → All IsPositive js →
    chunks_size (chunks_of (debug_rows objects) y js) + y ≡ data_end y js
names_fill objects y [] all positive = omega arith
names_fill objects y (j ∷ js) all positive =
    let start : ℕ = start_of y j in
    let up = (rounded_up j.align y (All-head IsPositive j js positive)).0 in
    let own = rows_fill j.title start y (left_flags objects) [] 0 objects up in
    let to : ℕ = named_end j.title start y (debug_rows objects) in
    let there : to ≡ start + j.end = subst (Reached start to) (All-head (λ j. found (joined_of objects) j.title ≡ Some j) j js all) own.1 in
    let rest = names_fill objects (start + j.end) js (All-tail (λ j. found (joined_of objects) j.title ≡ Some j) j js all) (All-tail IsPositive j js positive) in
    let parts = chunks_both (named_chunks j.title start y (debug_rows objects)) (chunks_of (debug_rows objects) (start + j.end) js) in
    let a = own.0 in omega (arith, a, there, rest, parts)

pub data_fill : (objects : List LoadedObject) (y : ℕ) → chunks_size (chunks_of (debug_rows objects) y (joined_of objects)) + y ≡ data_end y (joined_of objects)
data_fill objects y =
    let own = objects_own (left_flags objects) [] 0 objects (record { apart = tt; positive = All-nil IsPositive }) in
    names_fill objects y (joined_of objects) (found_all (joined_of objects) own.apart) own.positive

-- Where the bytes of sections stand in a file, each of as many bytes as it has.
module _ (file : List ℕ) (bytes : Placed → List ℕ) (long : (q : Placed) → length (bytes q) ≡ size_of q.piece) where
  abbrev pub padded : Chunk → List ℕ
  padded c = replicate c.pad 0 ++ bytes c.place

  abbrev pub StandsAt : List ℕ → ℕ → Placed → Type 0
  StandsAt n start q = bytes_eq q.piece.name n ≡ true → part file (start + q.at) (size_of q.piece) ≡ bytes q

  record OneStands (n : List ℕ) (start : ℕ) (q : Placed) (rest : List ℕ) : Type 0 where
    own : part file (start + q.at) (size_of q.piece) ≡ bytes q
    behind : drop (start + debug_end q) file ≡ rest

  one_stands :
      (n : List ℕ) (start y : ℕ) (q : Placed) (rest : List ℕ) → y ≤ start + q.at → drop y file ≡ (replicate (start + q.at - y) 0 ++ bytes q) ++ rest → OneStands n start q rest
  one_stands n start y q rest before e =
      let pad : List ℕ = replicate (start + q.at - y) 0 in
      let parts : drop y file ≡ pad ++ (bytes q ++ rest) = e ∙ append_assoc pad (bytes q) rest in
      let at : y + (start + q.at - y) ≡ start + q.at = omega (arith, before) in
      let there : drop (start + q.at) file ≡ bytes q ++ rest =
      ap (λ k. drop k file) (sym at) ∙ (sym (drop-drop (start + q.at - y) y file) ∙ (ap (drop (start + q.at - y)) parts ∙ drop_at pad (bytes q ++ rest) (start + q.at - y) (length-replicate (start + q.at - y) 0))) in
      let place : start + q.at + size_of q.piece ≡ start + debug_end q = omega arith in
      record {
        own = ap (take (size_of q.piece)) there ∙ take_at (bytes q) rest (size_of q.piece) (long q);
        behind = ap (λ k. drop k file) (sym place) ∙ (sym (drop-drop (size_of q.piece) (start + q.at) file) ∙ (ap (drop (size_of q.piece)) there ∙ drop_at (bytes q) rest (size_of q.piece) (long q)));
      }

  row_stands :
      (n : List ℕ) (start y : ℕ) (js : List Joined) (ps : List Piece) (rest : List ℕ) → All IsAligned ps → Reached start y (found js n) →
      drop y file ≡ flat_map padded (row_chunks n start y (places_from js ps)) ++ rest →
      All (StandsAt n start) (places_from js ps) × (drop (row_end n start y (places_from js ps)) file ≡ rest)
  row_stands n start y js [] rest some e there = (All-nil (StandsAt n start), there)
  row_stands n start y js (p ∷ ps) rest some e there =
      let more : List Joined = joined_with js p in
      let q : Placed = place_in js p in
      both (λ b. bytes_eq p.name n ≡ b →
      drop y file ≡ flat_map padded (cond b (record { pad = start + q.at - y; place = q } ∷ row_chunks n start (start + debug_end q) (places_from more ps)) (row_chunks n start y (places_from more ps))) ++ rest →
      All (StandsAt n start) (q ∷ places_from more ps)
      × (drop (cond b (row_end n start (start + debug_end q) (places_from more ps)) (row_end n start y (places_from more ps))) file ≡ rest))
      (bytes_eq p.name n)
      (λ t u here.
      let is : p.name ≡ n = same_name p.name n t in
      let before : y ≤ start + q.at = not_before start y p.name (found js p.name) p (All-head IsAligned p ps some) (subst (λ m. Reached start y (found js m)) (sym is) e) in
      let next : Reached start (start + debug_end q) (found more n) =
      subst (λ m. Reached start (start + debug_end q) (found more m)) is (subst (Reached start (start + debug_end q)) (sym (joined_own js p)) refl) in
      let chunks = flat_map padded (row_chunks n start (start + debug_end q) (places_from more ps)) in
      let one = one_stands n start y q (chunks ++ rest) before (here ∙ append_assoc (replicate (start + q.at - y) 0 ++ bytes q) chunks rest) in
      let others = row_stands n start (start + debug_end q) more ps rest (All-tail IsAligned p ps some) next one.behind in
      (All-cons (StandsAt n start) q (places_from more ps) (λ same. one.own) others.0, others.1))
      (λ f u here.
      let others = row_stands n start y more ps rest (All-tail IsAligned p ps some) (subst (Reached start y) (sym (joined_other js p n f)) e) here in
      (All-cons (StandsAt n start) q (places_from more ps) (λ same. absurd (false≢true (sym f ∙ same))) others.0, others.1))
      refl there

  rows_stand :
      (n : List ℕ) (start y : ℕ) (flags : List Bool) (js : List Joined) (k : ℕ) (os : List LoadedObject) (rest : List ℕ) → Reached start y (found js n) →
      drop y file ≡ flat_map padded (named_chunks n start y (rows_from flags js k os)) ++ rest →
      All (All (StandsAt n start)) (rows_from flags js k os) × (drop (named_end n start y (rows_from flags js k os)) file ≡ rest)
  rows_stand n start y flags js k [] rest e there = (All-nil (All (StandsAt n start)), there)
  rows_stand n start y flags js k (o ∷ os) rest e there =
      let ps : List Piece = debug_pieces flags k o in
      let next : ℕ = row_end n start y (places_from js ps) in
      let behind : List (List Placed) = rows_from flags (joined_all js ps) (k + 1) os in
      let chunks = flat_map padded (named_chunks n start next behind) in
      let parts = flat_map-append padded (row_chunks n start y (places_from js ps)) (named_chunks n start next behind) in
      let here = there ∙ (ap (λ l. l ++ rest) parts ∙ append_assoc (flat_map padded (row_chunks n start y (places_from js ps))) chunks rest) in
      let row = row_stands n start y js ps (chunks ++ rest) (pieces_aligned flags k o) e here in
      let others = rows_stand n start next flags (joined_all js ps) (k + 1) os rest (row_fills n start y js ps (pieces_aligned flags k o) e).1 row.1 in
      (All-cons (All (StandsAt n start)) (places_from js ps) behind row.0 others.0, others.1)

  abbrev pub StandFrom : List (List Placed) → ℕ → List Joined → Type 0
  StandFrom rows y [] = Unit {0}
  StandFrom rows y (j ∷ js) = All (All (StandsAt j.title (start_of y j))) rows × StandFrom rows (start_of y j + j.end) js

  names_stand :
      (objects : List LoadedObject) (y : ℕ) (js : List Joined) (rest : List ℕ) → All (λ j. found (joined_of objects) j.title ≡ Some j) js → All IsPositive js →
      drop y file ≡ flat_map padded (chunks_of (debug_rows objects) y js) ++ rest → StandFrom (debug_rows objects) y js
  names_stand objects y [] rest all positive there = tt
  names_stand objects y (j ∷ js) rest all positive there =
      let start : ℕ = start_of y j in
      let up = (rounded_up j.align y (All-head IsPositive j js positive)).0 in
      let to : ℕ = named_end j.title start y (debug_rows objects) in
      let own = rows_fill j.title start y (left_flags objects) [] 0 objects up in
      let is : to ≡ start + j.end = subst (Reached start to) (All-head (λ j. found (joined_of objects) j.title ≡ Some j) j js all) own.1 in
      let chunks = flat_map padded (chunks_of (debug_rows objects) (start + j.end) js) in
      let parts = flat_map-append padded (named_chunks j.title start y (debug_rows objects)) (chunks_of (debug_rows objects) (start + j.end) js) in
      let here = there ∙ (ap (λ l. l ++ rest) parts ∙ append_assoc (flat_map padded (named_chunks j.title start y (debug_rows objects))) chunks rest) in
      let mine = rows_stand j.title start y (left_flags objects) [] 0 objects (chunks ++ rest) up here in (
        mine.0,
        names_stand objects (start + j.end) js rest (All-tail (λ j. found (joined_of objects) j.title ≡ Some j) j js all) (All-tail IsPositive j js positive) (ap (λ k. drop k file) (sym is) ∙ mine.1),
      )

  pub data_stand : (objects : List LoadedObject) (y : ℕ) (rest : List ℕ) → drop y file ≡ flat_map padded (chunks_of (debug_rows objects) y (joined_of objects)) ++ rest → StandFrom (debug_rows objects) y (joined_of objects)
  data_stand objects y rest there =
      let own = objects_own (left_flags objects) [] 0 objects (record { apart = tt; positive = All-nil IsPositive }) in
      names_stand objects y (joined_of objects) rest (found_all (joined_of objects) own.apart) own.positive there
