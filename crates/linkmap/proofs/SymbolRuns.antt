-- Symbol lines that are read again from a text: what the plain reader takes the reader of all lines takes too, one more line at
-- the end of a run, and one less at its beginning.
use Rattle.std.proofs.Common.{◌≡◌, ℕ, zero, suc, ◌+◌, ◌-◌, ◌<◌, ◌≤◌, List, [], ◌∷◌, ◌++◌, Option, Some, None, length, take, drop, refl, sym, ap, ◌∙◌, ◌⊎◌, inl, inr, subst, map, codes, arith}
use Rattle.std.specs.List.{prefix_len, slice_get}
use Rattle.std.specs.Prelude.{option_map}
use Rattle.std.proofs.lemmas.Option.{none-some, slice_get-map, slice_get_within}
use Rattle.std.proofs.lemmas.List.{length-append, length-map, length_push, nil_from_length}
use Rattle.elf_model.specs.Image.MapRecord.{SymbolRow}
use Rattle.elf_model.specs.declared.link_map.Definition.{Definition}
use Rattle.elf_model.specs.Image.MapText.{Symbol, is_plain}
use Rattle.std.specs.Borrow.{Bor}
use Rattle.linkmap.specs.Borrowed.{symbol_row}
use Rattle.linkmap.specs.PlainRuns.{IsRun}
use Rattle.linkmap.specs.declared.borrowed.BorrowedSymbol.{BorrowedSymbol}
use Rattle.linkmap.specs.Reading.{Reads, address_at, both, chained, definition_at, line_at, name_at, seen, symbol_at, tag}
use Rattle.linkmap.specs.SymbolRuns.{behind, lines_in, passed, plain_line_at, plain_name_at, plain_symbol_at, taken}
use Rattle.linkmap.proofs.NameLaws.{plain_name}
use Rattle.linkmap.proofs.Parsers.{Took, chained_some, fork_some, mapped_some}
use Rattle.linkmap.proofs.ReadLaws.{line_shorter}
use Rattle.linkmap.proofs.Tags.{tag_takes}

-- what the one reader takes the other takes too
abbrev Within : {X : Type 0} → Reads X → Reads X → Type 0
Within {X} few all = (bytes : List ℕ) (x : X) (left : List ℕ) → Took (few bytes) x left → Took (all bytes) x left

pub name_of_plain : Within plain_name_at name_at
unfolding plain_name_at
name_of_plain bytes x left h =
    let n = prefix_len is_plain bytes in
    let m = mapped_some (take n bytes) x (tag (codes "\n") (drop n bytes)) left h in
    plain_name bytes (take n bytes) (drop n bytes) left (record { front = refl; back = refl }) m.1
    ∙ ap (λ (w : List ℕ). Some (w, left)) m.0

module _ {X Y : Type 0} (first : Reads X) (few all : Reads Y) where
  both_within : Within few all → Within (both first few) (both first all)
  both_within w bytes z left h =
      let c = chained_some (first bytes) (λ x rest. chained (few rest) (λ y last. Some ((x, y), last))) z left h in
      let d = chained_some (few c.rest) (λ y last. Some ((c.value, y), last)) z left c.second in
      rw (c.first, w c.rest d.value d.rest d.first) d.second

module _ {X Y : Type 0} (f : X → Y) (few all : Reads X) where
  seen_within : Within few all → Within (seen f few) (seen f all)
  seen_within w bytes y left h =
      let c = chained_some (few bytes) (λ x rest. Some (f x, rest)) y left h in
      rw (w bytes c.value c.rest c.first) c.second

symbol_of_plain : Within plain_symbol_at symbol_at
unfolding plain_symbol_at symbol_at
symbol_of_plain =
    seen_within (λ (x : ℕ × (Definition × List ℕ)). record { address = x.0; definition = x.1.0; name = x.1.1 }) _ _
    (both_within address_at _ _ (both_within definition_at _ _ name_of_plain))

symbol_line : (rest : List ℕ) (s : SymbolRow) (left : List ℕ) → Took (symbol_at rest) s left → Took (line_at (codes "symbol " ++ rest)) (Symbol s) left
unfolding line_at tag
symbol_line rest s left e = rw (e) refl

pub line_of_plain : (bytes : List ℕ) (s : SymbolRow) (left : List ℕ) → Took (plain_line_at bytes) s left → Took (line_at bytes) (Symbol s) left
unfolding plain_line_at
line_of_plain bytes s left h = by (fork_some (tag (codes "symbol ") bytes) plain_symbol_at None (s, left) h) where
  by : ((rest : List ℕ) × (tag (codes "symbol ") bytes ≡ Some rest) × Took (plain_symbol_at rest) s left) ⊎ Took None s left → Took (line_at bytes) (Symbol s) left
  by (inl (rest, found, e)) =
      subst (λ (w : List ℕ). Took (line_at w) (Symbol s) left) (sym (tag_takes (codes "symbol ") bytes rest found)) (symbol_line rest s left (symbol_of_plain rest s left e))
  by (inr e) = absurd (none-some (s, left) e)

-- a run takes as many bytes as it has lines, or more
run_short : (n : ℕ) (text : List ℕ) → length (lines_in n text) ≤ length text
unfolding lines_in
run_short zero text = omega arith
run_short (suc n) text = by (plain_line_at text) refl (run_short n) where
  by : (o : Option (SymbolRow × List ℕ)) → plain_line_at text ≡ o → ((t : List ℕ) → length (lines_in n t) ≤ length t) → length (taken o (lines_in n)) ≤ length text
  by None e short = omega arith
  by (Some p) e short = omega (arith, short p.1, line_shorter text (Symbol p.0) p.1 (line_of_plain text p.0 p.1 e))

pub run_fits : (n : ℕ) (text : List ℕ) → length (lines_in n text) ≡ n → n ≤ length text
run_fits n text e = omega (arith, run_short n text, e)

-- one more line at the end of a run
pub record Longer (n : ℕ) (text : List ℕ) (s : SymbolRow) (left : List ℕ) : Type 0 where
  pub lines : lines_in (suc n) text ≡ lines_in n text ++ s ∷ []
  pub rest : behind (suc n) text ≡ left

pub run_more :
    (n : ℕ) (text here : List ℕ) (s : SymbolRow) (left : List ℕ) →
    length (lines_in n text) ≡ n → behind n text ≡ here → Took (plain_line_at here) s left → Longer n text s left
unfolding lines_in behind
run_more zero text here s left e at h =
    let there : plain_line_at text ≡ Some (s, left) = ap plain_line_at at ∙ h in
    record { lines = ap (λ (o : Option (SymbolRow × List ℕ)). taken o (lines_in zero)) there; rest = ap (λ (o : Option (SymbolRow × List ℕ)). passed o (behind zero)) there }
run_more (suc n) text here s left e at h = by (plain_line_at text) refl e at (λ t f g. run_more n t here s left f g h) where
  by : (o : Option (SymbolRow × List ℕ)) → plain_line_at text ≡ o → length (taken o (lines_in n)) ≡ suc n → passed o (behind n) ≡ here →
      ((t : List ℕ) → length (lines_in n t) ≡ n → behind n t ≡ here → Longer n t s left) → Longer (suc n) text s left
  by None is f g more = absurd (omega (arith, f))
  by (Some p) is f g more =
      let l = more p.1 (omega (arith, f)) g in
      record {
        lines = ap (λ (o : Option (SymbolRow × List ℕ)). taken o (lines_in (suc n))) is ∙ ap (λ (w : List SymbolRow). p.0 ∷ w) l.lines
            ∙ sym (ap (λ (o : Option (SymbolRow × List ℕ)). taken o (lines_in n) ++ s ∷ []) is);
        rest = ap (λ (o : Option (SymbolRow × List ℕ)). passed o (behind (suc n))) is ∙ l.rest;
      }

-- what is to be said of a run with one more line
pub record Grown (n : ℕ) (text : List ℕ) (s : SymbolRow) (left : List ℕ) : Type 0 where
  pub counted : length (lines_in (n + 1) text) ≡ n + 1
  pub behind_are : behind (n + 1) text ≡ left
  pub last_is : Some s ≡ slice_get (lines_in (n + 1) text) (n + 1 - 1)
  pub rows : lines_in (n + 1) text ≡ lines_in n text ++ s ∷ []

pub grown :
    (n : ℕ) (text here : List ℕ) (s : SymbolRow) (left : List ℕ) →
    length (lines_in n text) ≡ n → behind n text ≡ here → Took (plain_line_at here) s left → Grown n text s left
grown n text here s left e at h =
    let l = run_more n text here s left e at h in
    let next : n + 1 ≡ suc n = omega arith in
    let rows : lines_in (n + 1) text ≡ lines_in n text ++ s ∷ [] = ap (λ (k : ℕ). lines_in k text) next ∙ l.lines in
    let longer = length_push (lines_in n text) s in
    let counted : length (lines_in (n + 1) text) ≡ n + 1 = omega (arith, ap length rows, longer, e) in
    let place : n + 1 - 1 ≡ length (lines_in n text) = omega (arith, e) in
    record {
      counted = counted;
      behind_are = ap (λ (k : ℕ). behind k text) next ∙ l.rest;
      last_is = sym (ap (slice_get (lines_in (n + 1) text)) place ∙ (ap (λ (w : List SymbolRow). slice_get w (length (lines_in n text))) rows ∙ last_pushed (lines_in n text) s));
      rows = rows;
    } where
      last_pushed : {X : Type 0} (xs : List X) (x : X) → slice_get (xs ++ x ∷ []) (length xs) ≡ Some x
      last_pushed [] x = refl
      last_pushed (y ∷ xs) x = last_pushed xs x

pub begun : (text : List ℕ) (s : SymbolRow) (left : List ℕ) → Took (plain_line_at text) s left → Grown 0 text s left
unfolding lines_in behind
begun text s left h = grown 0 text text s left refl refl h

pub begun_rows : (text : List ℕ) (s : SymbolRow) (left : List ℕ) → Took (plain_line_at text) s left → lines_in 1 text ≡ s ∷ []
unfolding lines_in
begun_rows text s left h = ap (λ (o : Option (SymbolRow × List ℕ)). taken o (lines_in 0)) h

pub grown_run : (n : ℕ) (text : Bor (List ℕ)) (line : BorrowedSymbol) (rest : Bor (List ℕ)) → Grown n text.now (symbol_row line) rest.now →
    IsRun (record { text = text; count = n + 1; rest = rest; last = Some line })
grown_run n text line rest g = record { counted = g.counted; behind_are = g.behind_are; last_is = g.last_is }

pub no_rows : (n : ℕ) (text : List ℕ) (s : SymbolRow) → length (lines_in n text) ≡ n → n ≡ 0 → s ∷ [] ≡ lines_in n text ++ s ∷ []
no_rows n text s e none = ap (λ (w : List SymbolRow). w ++ s ∷ []) (sym (nil_from_length (lines_in n text) (e ∙ none)))

-- one line less at its beginning
pub record Shorter (n : ℕ) (text : List ℕ) (s : SymbolRow) (left : List ℕ) : Type 0 where
  pub lines : lines_in n text ≡ s ∷ lines_in (n - 1) left
  pub counted : length (lines_in (n - 1) left) ≡ n - 1

pub run_less :
    (n : ℕ) (text : List ℕ) (s : SymbolRow) (left : List ℕ) → 0 < n → length (lines_in n text) ≡ n → Took (plain_line_at text) s left → Shorter n text s left
unfolding lines_in
run_less zero text s left some e h = absurd (omega (arith, some))
run_less (suc n) text s left some e h =
    let one : suc n - 1 ≡ n = omega arith in
    let is : lines_in (suc n) text ≡ s ∷ lines_in n left = ap (λ (o : Option (SymbolRow × List ℕ)). taken o (lines_in n)) h in
    let longer = ap length is in
    let counted : length (lines_in n left) ≡ n = omega (arith, e, longer) in
    record {
      lines = is ∙ ap (λ (k : ℕ). s ∷ lines_in k left) (sym one);
      counted = ap (λ (k : ℕ). length (lines_in k left)) one ∙ (counted ∙ sym one);
    }

pub run_some : (n : ℕ) (text : List ℕ) → 0 < n → length (lines_in n text) ≡ n → plain_line_at text ≡ None → ⊥
unfolding lines_in
run_some zero text some e none = omega (arith, some)
run_some (suc n) text some e none = omega (arith, e, ap (λ (o : Option (SymbolRow × List ℕ)). length (taken o (lines_in n))) none)

-- the last line of kept ones behind others
pub last_kept :
    {X Y : Type 0} (xs : List Y) (f : X → Y) (ks : List X) (x : X) → slice_get ks (length ks - 1) ≡ Some x →
    slice_get (xs ++ map f ks) (length (xs ++ map f ks) - 1) ≡ Some (f x)
last_kept {X} {Y} xs f ks x e =
    let within = slice_get_within ks (length ks - 1) x e in
    let counted = length-append xs (map f ks) in
    let mapped = length-map ks f in
    let at : length (xs ++ map f ks) - 1 ≡ length xs + (length ks - 1) = omega (arith, within, counted, mapped) in
    ap (slice_get (xs ++ map f ks)) at ∙ (past xs (map f ks) (length ks - 1) ∙ (slice_get-map f ks (length ks - 1) ∙ ap (option_map f) e)) where
      past : {Z : Type 0} (front back : List Z) (k : ℕ) → slice_get (front ++ back) (length front + k) ≡ slice_get back k
      past [] back k = let e : 0 + k ≡ k = omega arith in ap (slice_get back) e
      past (z ∷ front) back k =
          let e : length (z ∷ front) + k ≡ suc (length front + k) = omega arith in ap (slice_get (z ∷ front ++ back)) e ∙ past front back k
