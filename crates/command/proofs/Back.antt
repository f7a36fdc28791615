-- Words that are spelled as phrases are read as these phrases.
use Rattle.std.proofs.Common.{◌≡◌, ◌≢◌, ◌⊎◌, inl, inr, ℕ, Bool, true, false, cond, not, ◌&&◌, eqb, nat_eq, List, [], ◌∷◌, ◌++◌, length, Option, Some, None, is_some, Ok, Err, refl, ap, ◌∙◌, sym, append_assoc, append-nil, codes, arith}
use Rattle.std.specs.Option.{option_map_or}
use Rattle.std.proofs.lemmas.Bool.Decides.{nat_tests, Decides-eqb}
use Rattle.elf_model.specs.declared.faults.CmdFault.TheVariants.{GroupNesting, NoInput, MissingValue, NotArchiveInGroup, BadNumber}
use Rattle.elf_model.specs.Inputs.Command.{Path, Library, Plan, Phrase, Output, Entry, Undefined, Directory, Input, MapFile, Base, GroupStart, GroupEnd, WholeStart, WholeEnd, Check, Strip, NoEffect, Setting, OutputFile, EntrySymbol, UndefinedSymbol, SearchDirectory, LibraryName, Machine, MapPath, TextSegment, and_then, is_empty, setting_of, base_of, meaning, given, of_word, split, is_open, is_archive, placed, read_behind, plan_of_phrases, whole_line, command_of, IsTwoWords, IsOneWord, IsSpelled, IsPhrases, MayFollow, AllFollow, IsCommand}
use Rattle.command.specs.Steps.{with_next, phrase_at}
use Rattle.command.proofs.Splitting.{read_on, split_is}

-- the words begin with the phrase
record IsRead (words : List (List ℕ)) (p : Phrase) (rest : List (List ℕ)) : Type 0 where
  word : List ℕ
  behind : List (List ℕ)
  whole : words ≡ word ∷ behind
  read : phrase_at word behind ≡ Ok (p, rest)

not_empty : (x : ℕ) (xs : List ℕ) → is_empty (x ∷ xs) ≡ false
not_empty x xs = grind (arith, nat_tests)

given_may : (s : Setting) (v : List ℕ) → v ≢ [] → given s v ≡ meaning s v
given_may s [] n = absurd (n refl)
given_may s (x ∷ xs) n = ap (λ b. cond b (Err MissingValue) (meaning s (x ∷ xs))) (not_empty x xs)

next_may : (o : List ℕ) (s : Setting) (v : List ℕ) (rest : List (List ℕ)) (p : Phrase) → setting_of o ≡ Some s → v ≢ [] → meaning s v ≡ Ok p → phrase_at o (v ∷ rest) ≡ Ok (p, rest)
next_may o s v rest p e n m =
    ap (λ x. option_map_or (with_next (v ∷ rest)) x (and_then {Y = Phrase × List (List ℕ)} (of_word o) (λ q. Ok (q, v ∷ rest)))) e
    ∙ ap (λ r. and_then {Y = Phrase × List (List ℕ)} r (λ q. Ok (q, rest))) (given_may s v n ∙ m)

word_may : (w : List ℕ) (rest : List (List ℕ)) (p : Phrase) → setting_of w ≡ None → of_word w ≡ Ok p → phrase_at w rest ≡ Ok (p, rest)
word_may w rest p e m =
    ap (λ x. option_map_or (with_next rest) x (and_then {Y = Phrase × List (List ℕ)} (of_word w) (λ q. Ok (q, rest)))) e
    ∙ ap (λ r. and_then {Y = Phrase × List (List ℕ)} r (λ q. Ok (q, rest))) m

-- two words, one word, and a word alone
two_may : (o : List ℕ) (s : Setting) (v : List ℕ) (fw rest : List (List ℕ)) (p : Phrase) → setting_of o ≡ Some s → meaning s v ≡ Ok p → IsTwoWords o v fw → IsRead (fw ++ rest) p rest
two_may o s v fw rest p e m h = record { word = o; behind = v ∷ rest; whole = ap (λ f. f ++ rest) h.0; read = next_may o s v rest p e h.1 m }

one_may : (w : List ℕ) (fw rest : List (List ℕ)) (p : Phrase) → setting_of w ≡ None → of_word w ≡ Ok p → fw ≡ w ∷ [] → IsRead (fw ++ rest) p rest
one_may w fw rest p e m h = record { word = w; behind = rest; whole = ap (λ f. f ++ rest) h; read = word_may w rest p e m }

directory_may : (v : List ℕ) (fw rest : List (List ℕ)) → IsOneWord (codes "-L") v fw → IsRead (fw ++ rest) (Directory v) rest
directory_may [] fw rest h = absurd (h.1 refl)
directory_may (x ∷ xs) fw rest h = one_may (codes "-L" ++ x ∷ xs) fw rest (Directory (x ∷ xs)) refl (given_may SearchDirectory (x ∷ xs) h.1) h.0

library_may : (v : List ℕ) (fw rest : List (List ℕ)) → IsOneWord (codes "-l") v fw → IsRead (fw ++ rest) (Input (Library v)) rest
library_may [] fw rest h = absurd (h.1 refl)
library_may (x ∷ xs) fw rest h = one_may (codes "-l" ++ x ∷ xs) fw rest (Input (Library (x ∷ xs))) refl (given_may LibraryName (x ∷ xs) h.1) h.0

map_may : (v : List ℕ) (fw rest : List (List ℕ)) → IsOneWord (codes "-Map=") v fw → IsRead (fw ++ rest) (MapFile v) rest
map_may v fw rest h = one_may (codes "-Map=" ++ v) fw rest (MapFile v) refl (given_may MapPath v h.1) h.0

base_may : (n : ℕ) (v : List ℕ) (fw rest : List (List ℕ)) → IsOneWord (codes "-Ttext-segment=") v fw → base_of v ≡ Some n → IsRead (fw ++ rest) (Base n) rest
base_may n v fw rest h e = one_may (codes "-Ttext-segment=" ++ v) fw rest (Base n) refl (given_may TextSegment v h.1 ∙ ap (λ o. option_map_or (λ m. Ok (Base m)) o (Err BadNumber)) e) h.0

-- a path
first_byte : (b : ℕ) (bs : List ℕ) → ((w : List ℕ) → b ∷ bs ≢ codes "-" ++ w) → eqb b 45 ≡ false
first_byte b bs n = by (eqb b 45) (Decides-eqb b 45).0 where
  by : (t : Bool) → (t ≡ true → b ≡ 45) → t ≡ false
  by true d = absurd (n bs (ap (λ x. x ∷ bs) (d refl)))
  by false d = refl

swapped : (b : ℕ) → eqb b 45 ≡ false → eqb 45 b ≡ false
swapped b e = grind (arith, nat_tests)

path_none : (b : ℕ) (bs : List ℕ) → eqb b 45 ≡ false → setting_of (b ∷ bs) ≡ None
path_none b bs e = simp e

path_read : (b : ℕ) (bs : List ℕ) → eqb b 45 ≡ false → of_word (b ∷ bs) ≡ Ok (Input (Path (b ∷ bs)))
path_read b bs e =
    let f : eqb 45 b ≡ false = swapped b e in
    let g : is_empty (b ∷ bs) ≡ false = not_empty b bs in
    simp (e, f, g)

path_may : (v : List ℕ) (fw rest : List (List ℕ)) → IsSpelled fw (Input (Path v)) → IsRead (fw ++ rest) (Input (Path v)) rest
path_may [] fw rest h = absurd (h.1 refl)
path_may (b ∷ bs) fw rest h =
    let e : eqb b 45 ≡ false = first_byte b bs h.2 in
    one_may (b ∷ bs) fw rest (Input (Path (b ∷ bs))) (path_none b bs e) (path_read b bs e) h.0

either_may : {A B : Type 0} (C : Type 0) → (A → C) → (B → C) → A ⊎ B → C
either_may C f g (inl a) = f a
either_may C f g (inr b) = g b

spelled_may : (p : Phrase) (fw rest : List (List ℕ)) → IsSpelled fw p → IsRead (fw ++ rest) p rest
spelled_may (Output v) fw rest h = two_may (codes "-o") OutputFile v fw rest (Output v) refl refl h
spelled_may (Entry v) fw rest h = two_may (codes "-e") EntrySymbol v fw rest (Entry v) refl refl h
spelled_may (Undefined v) fw rest h = two_may (codes "-u") UndefinedSymbol v fw rest (Undefined v) refl refl h
spelled_may (Directory v) fw rest h = either_may _ (two_may (codes "-L") SearchDirectory v fw rest (Directory v) refl refl) (directory_may v fw rest) h
spelled_may (Input (Library v)) fw rest h = either_may _ (two_may (codes "-l") LibraryName v fw rest (Input (Library v)) refl refl) (library_may v fw rest) h
spelled_may (Input (Path v)) fw rest h = path_may v fw rest h
spelled_may (MapFile v) fw rest h = map_may v fw rest h
spelled_may (Base n) fw rest h = base_may n h.0 fw rest h.1 h.2
spelled_may GroupStart fw rest h = either_may _ (one_may (codes "--start-group") fw rest GroupStart refl refl) (one_may (codes "-(") fw rest GroupStart refl refl) h
spelled_may GroupEnd fw rest h = either_may _ (one_may (codes "--end-group") fw rest GroupEnd refl refl) (one_may (codes "-)") fw rest GroupEnd refl refl) h
spelled_may WholeStart fw rest h = one_may (codes "--whole-archive") fw rest WholeStart refl refl h
spelled_may WholeEnd fw rest h = one_may (codes "--no-whole-archive") fw rest WholeEnd refl refl h
spelled_may Check fw rest h = one_may (codes "--check") fw rest Check refl refl h
spelled_may Strip fw rest h = one_may (codes "-s") fw rest Strip refl refl h
spelled_may NoEffect fw rest h =
    either_may _ (one_may (codes "-static") fw rest NoEffect refl refl)
    (either_may _ (one_may (codes "-nostdlib") fw rest NoEffect refl refl)
    (λ e. two_may (codes "-m") Machine (codes "elf_x86_64") fw rest NoEffect refl refl (e, (λ n. absurd cc)))) h

archive_may : (b a : Bool) (ps : List Phrase) → (b ≡ true → a ≡ true) → cond (b && not a) (Err NotArchiveInGroup) (Ok ps) ≡ Ok ps
archive_may true a ps h = ap (λ x. cond (not x) (Err NotArchiveInGroup) (Ok ps)) (h refl)
archive_may false a ps h = refl

placed_may : (front : List Phrase) (p : Phrase) → MayFollow front p → placed front p ≡ Ok (front ++ p ∷ [])
placed_may front GroupStart h = ap (λ b. cond b (Err GroupNesting) (Ok (front ++ GroupStart ∷ []))) h
placed_may front GroupEnd h = ap (λ b. cond b (Ok (front ++ GroupEnd ∷ [])) (Err GroupNesting)) h
placed_may front (Input s) h = archive_may (is_open front) (is_archive s) (front ++ Input s ∷ []) h
placed_may front p h = refl

reading_may : (ps front : List Phrase) (words : List (List ℕ)) → IsPhrases words ps → AllFollow front ps → read_behind front (split words) ≡ Ok (front ++ ps)
reading_may [] front words h g = ap (λ ws. read_behind front (split ws)) h ∙ ap Ok (sym (append-nil front))
reading_may (p ∷ ps) front words h g =
    let r : IsRead (h.0 ++ h.1) p h.1 = spelled_may p h.0 h.1 h.3 in
    ap (λ ws. read_behind front (split ws)) (h.2 ∙ r.whole)
    ∙ split_is front r.word r.behind
    ∙ ap (λ x. and_then x (read_on front)) r.read
    ∙ ap (λ x. and_then x (λ qs. read_behind qs (split h.1))) (placed_may front p g.0)
    ∙ reading_may ps (front ++ p ∷ []) h.1 h.4 g.1
    ∙ ap Ok (append_assoc front (p ∷ []) ps)

line_may : (b n m : Bool) (t : Plan) → b ≡ false → n ≡ false → m ≡ false → cond b (Err GroupNesting) (cond n (Err NoInput) (cond m (Err MissingValue) (Ok t))) ≡ Ok t
line_may b n m t e f g = rw (e, f, g) refl

some_may : {X : Type 0} (xs : List X) → xs ≢ [] → nat_eq (length xs) 0 ≡ false
some_may [] n = absurd (n refl)
some_may (x ∷ xs) n = grind (arith, nat_tests)

mapped_may : {X : Type 0} (c : Bool) (o : Option X) → (c ≡ true → o ≢ None) → (c && not (is_some o)) ≡ false
mapped_may true None h = absurd (h refl refl)
mapped_may true (Some x) h = refl
mapped_may false o h = refl

whole_may : (ps : List Phrase) (plan : Plan) → is_open ps ≡ false → plan ≡ plan_of_phrases ps → plan.items ≢ [] → (plan.check ≡ true → plan.map ≢ None) → whole_line ps ≡ Ok plan
whole_may ps plan o e s m =
    let t : Plan = plan_of_phrases ps in
    line_may (is_open ps) (nat_eq (length t.items) 0) (t.check && not (is_some t.map)) t o
    (ap (λ (p : Plan). nat_eq (length p.items) 0) (sym e) ∙ some_may plan.items s)
    (ap (λ (p : Plan). p.check && not (is_some p.map)) (sym e) ∙ mapped_may plan.check plan.map m)
    ∙ ap Ok (sym e)

pub back : (words : List (List ℕ)) (phrases : List Phrase) (plan : Plan) → IsCommand words phrases plan → command_of words ≡ Ok plan
unfolding command_of
back words phrases plan h =
    ap (λ r. and_then r whole_line) (reading_may phrases [] words h.spelled h.grouped)
    ∙ whole_may phrases plan h.closed h.plan_is h.some h.mapped
