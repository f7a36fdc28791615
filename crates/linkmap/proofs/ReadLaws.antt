-- A reader that has read some lines of a map: what each answer of the next line says of the whole text.
use Rattle.std.proofs.Common.{◌≡◌, ℕ, ◌+◌, ◌<◌, ◌≤◌, ◌⊎◌, inl, inr, List, [], ◌∷◌, ◌++◌, length, Option, None, refl, sym, ap, ◌∙◌, subst, arith}
use Rattle.std.proofs.Common.{true, false, eqb}
use Rattle.std.proofs.lemmas.Bool.{eqb-true, eq-eqb, false≢true}
use Rattle.std.proofs.lemmas.List.{append_assoc, append-nil, length-append, length_push, nil_from_length}
use Rattle.std.proofs.lemmas.List.Concat.{flat_map-append}
use Rattle.std.proofs.lemmas.List.Elements.{All-nil}
use Rattle.std.proofs.lemmas.Option.{none-some, some_pair_parts}
use Rattle.elf_model.specs.Image.MapRecord.{MapRecord}
use Rattle.elf_model.specs.Image.MapText.{Line, Version, Object, Drop, Place, Common, Got, Slot, Symbol, Symtab, End, IsVersioned, version_text, line_text, object_text, drop_text, place_text, common_text, got_text, slot_text, symbol_text, symtab_text, body, text, IsMap, IsFirstWrong}
use Rattle.linkmap.specs.declared.digits.LineFault.{LineFault}
use Rattle.linkmap.specs.declared.digits.LineFault.TheVariants as line_fault
use Rattle.linkmap.specs.Reading.{line_at, version_at, Fails}
use Rattle.linkmap.specs.Order.{MayStand, add, empty_map}
use Rattle.linkmap.proofs.ChainLaws.{Follows, last, last-append, after_end, tail}
use Rattle.linkmap.proofs.GrowthLaws.{stands, version-add, body-add, is_map-add}
use Rattle.linkmap.proofs.Injective.{text_injective}
use Rattle.linkmap.proofs.LineLaws.{FitsLine, IsVersion, line-IsParser, version-IsParser}
use Rattle.linkmap.proofs.Parsers.{Took}
use Rattle.linkmap.proofs.TextLaws.{spell, version_of, Front, wrong_line}

-- the lines of m, behind the first, are read, and the rest is left; k is the number of the next line
pub record Reading (m : MapRecord) (bytes rest : List ℕ) (k : ℕ) : Type 0 where
  pub is_map : IsMap m
  pub whole : bytes ≡ version_text m.version ++ (spell (body m) ++ rest)
  pub counted : k ≡ 2 + length (body m)

-- nothing is read behind the first line
empty_is_map : (v : ℕ) → IsVersion v → IsMap (empty_map v)
empty_is_map v is = record {
  fits = record { objects = All-nil _; drops = All-nil _; places = All-nil _; commons = All-nil _; got = All-nil _; slots = All-nil _; symbols = All-nil _; symtab = All-nil _ };
  ordered = record {
    version = by is;
    objects = λ k d l. absurd (omega arith);
    drops = λ k d l. absurd (omega arith);
    places = λ k d l. absurd (omega arith);
    commons = λ k d l. absurd (omega arith);
    slots = λ k d l. absurd (omega arith);
    symbols = λ k d l. absurd (omega arith);
  };
} where
  by : IsVersion v → IsVersioned (empty_map v)
  by (inl e) = inl (e, refl)
  by (inr e) = inr e

pub start : (v : ℕ) (bytes rest : List ℕ) → Took (version_at bytes) v rest → Reading (empty_map v) bytes rest 2
unfolding body
start v bytes rest h =
    let t = version-IsParser.takes bytes v rest h in
    record { is_map = empty_is_map v t.1; whole = t.0; counted = refl }

pub no_first : (bytes : List ℕ) → version_at bytes ≡ None → IsFirstWrong 1 bytes
no_first bytes h = record {
  counted = omega arith;
  right = record { whole = empty_map 1; is_map = empty_is_map 1 (inl refl); within = omega arith; rest = bytes; front = refl };
  wrong = λ b. never b.whole b.is_map b.rest (b.front ∙ append_assoc (version_text b.whole.version) [] b.rest);
  no_map = λ m i e. never m i (spell (tail m)) e;
} where
  never : (m : MapRecord) → IsMap m → (rest : List ℕ) → bytes ≡ version_text m.version ++ rest → ⊥
  never m i rest e = none-some (m.version, rest) (sym h ∙ ap version_at e ∙ version-IsParser.again m.version rest (version_of m i.ordered))

module _ (m : MapRecord) (bytes rest : List ℕ) (k : ℕ) (r : Reading m bytes rest k) where
  abbrev so_far : Front (body m)
  so_far = record { whole = m; is_map = r.is_map; more = End ∷ []; front = refl }

  open_end : End ∷ [] ≡ [] → rest ≡ [] → ⊥
  open_end e f = cc

  -- no line can be read
  pub bad_line : line_at rest ≡ None → IsFirstWrong k bytes
  bad_line h =
      wrong_line (body m) rest so_far
      (λ l left fits follows e. none-some (l, left) (sym h ∙ ap line_at e ∙ line-IsParser.again l left fits))
      open_end bytes k r.whole r.counted

  -- a line that may not stand there
  pub misplaced : (x : Line) (next : List ℕ) → Took (line_at rest) x next → (MayStand m x → ⊥) → (x ≡ End → ⊥) → IsFirstWrong k bytes
  misplaced x next h never other = wrong_line (body m) rest so_far by open_end bytes k r.whole r.counted where
    cases : (MayStand m x ⊎ (x ≡ End)) → ⊥
    cases (inl s) = never s
    cases (inr e) = other e

    by : (l : Line) (left : List ℕ) → FitsLine l → Follows m.version (last (Version m.version) (body m)) l → rest ≡ line_text l ++ left → ⊥
    by l left fits follows e =
        let same = some_pair_parts l x left next (sym (line-IsParser.again l left fits) ∙ ap line_at (sym e) ∙ h) in
        cases (stands m r.is_map.ordered.objects x (subst (λ (w : Line). Follows m.version (last (Version m.version) (body m)) w) same.0 follows))

  -- the last line
  ended : (left : List ℕ) → Took (line_at rest) End left → spell (body m) ++ rest ≡ spell (tail m) ++ left
  ended left h =
      let t = line-IsParser.takes rest End left h in
      ap (λ w. spell (body m) ++ w) t.0 ∙ sym (append_assoc (spell (body m)) (line_text End) left)
      ∙ ap (λ w. w ++ left) (sym (flat_map-append line_text (body m) (End ∷ [])))

  pub found : Took (line_at rest) End [] → bytes ≡ text m
  found h = r.whole ∙ ap (λ w. version_text m.version ++ w) (ended [] h ∙ append-nil (spell (tail m)))

  pub behind_end : (left : List ℕ) → Took (line_at rest) End left → (left ≡ [] → ⊥) → IsFirstWrong (k + 1) bytes
  behind_end left h some =
      wrong_line (tail m) left (record { whole = m; is_map = r.is_map; more = []; front = sym (append-nil (tail m)) })
      (λ l next fits follows e. after_end m.version l (subst (λ (w : Line). Follows m.version w l) (last-append (Version m.version) (body m) (End ∷ [])) follows))
      (λ e f. some f) bytes (k + 1) (r.whole ∙ ap (λ w. version_text m.version ++ w) (ended left h))
      (omega (arith, r.counted, length_push (body m) End))

  -- one line on
  pub one_more : (x : Line) (left : List ℕ) → Took (line_at rest) x left → MayStand m x → Reading (add m x) bytes left (k + 1)
  one_more x left h s =
      let t = line-IsParser.takes rest x left h in
      let longer = body-add m x s in
      let joined = ap (λ w. spell (body m) ++ w) t.0 ∙ sym (append_assoc (spell (body m)) (line_text x) left) in
      let spelled = ap spell longer ∙ flat_map-append line_text (body m) (x ∷ []) ∙ ap (λ w. spell (body m) ++ w) (append-nil (line_text x)) in
      record {
        is_map = is_map-add m x s t.1 r.is_map;
        whole = r.whole ∙ ap (λ w. version_text m.version ++ w) (joined ∙ ap (λ w. w ++ left) (sym spelled))
            ∙ ap (λ v. version_text v ++ (spell (body (add m x)) ++ left)) (sym (version-add m x));
        counted = omega (arith, r.counted, ap length longer, length_push (body m) x);
      }

-- a line takes at least a byte
line_some : (l : Line) → 0 < length (line_text l)
unfolding version_text object_text drop_text place_text common_text got_text slot_text symbol_text symtab_text
line_some (Version n) = omega arith
line_some (Object o) = omega arith
line_some (Drop d) = omega arith
line_some (Place p) = omega arith
line_some (Common c) = omega arith
line_some (Got g) = omega arith
line_some (Slot s) = omega arith
line_some (Symbol s) = omega arith
line_some (Symtab t) = omega arith
line_some End = omega arith

pub line_shorter : (rest : List ℕ) (x : Line) (left : List ℕ) → Took (line_at rest) x left → length left < length rest
line_shorter rest x left h =
    let t = line-IsParser.takes rest x left h in
    omega (arith, ap length t.0, length-append (line_text x) left, line_some x)

version_long : (n : ℕ) → 2 ≤ length (version_text n)
unfolding version_text
version_long n = omega arith

pub first_shorter : (v : ℕ) (bytes rest : List ℕ) → Took (version_at bytes) v rest → 2 + length rest ≤ length bytes
first_shorter v bytes rest h =
    let t = version-IsParser.takes bytes v rest h in
    omega (arith, ap length t.0, length-append (version_text v) rest, version_long v)

-- the answers of the parts, as the facts above take them
pub fails_bad : (e : LineFault) (o : Option (Line × List ℕ)) → e ≡ line_fault.Bad → Fails e o → o ≡ None
fails_bad e o is h = subst (λ (w : LineFault). Fails w o) is h

pub took_end : (o : Option (Line × List ℕ)) (x : Line) (left : List ℕ) → Took o x left → x ≡ End → Took o End left
took_end o x left h e = subst (λ (w : Line). Took o w left) e h

pub nothing_left : (left : List ℕ) → true ≡ eqb (length left) 0 → left ≡ []
nothing_left left e = nil_from_length left (eqb-true (length left) 0 (sym e))

pub something_left : (left : List ℕ) → false ≡ eqb (length left) 0 → left ≡ [] → ⊥
something_left left e none = false≢true (e ∙ eq-eqb (length left) 0 (ap length none))

pub read_same : (m n : MapRecord) (bytes : List ℕ) → IsMap m → bytes ≡ text m → IsMap n → bytes ≡ text n → m ≡ n
read_same m n bytes h e i f = text_injective m n h i (sym e ∙ f)
