-- Runs of neighbours of one output section: the first piece of each and the one with which it ends are of the pieces, and are
-- alike; and each run ends before the later ones of its kind begin.
use Rattle.std.proofs.Common.{◌≡◌, ◌⊎◌, inl, inr, ℕ, ◌<◌, ◌≤◌, ◌&&◌, ◌==◌, Bool, true, false, cond, List, [], ◌∷◌, ◌++◌, refl, sym, ◌∙◌, ap, append_assoc, arith}
use Rattle.std.specs.Prelude.{All, AllPairs, filter, max, nat_le}
use Rattle.std.specs.Str.{bytes_eq}
use Rattle.std.proofs.lemmas.Bool.{and_parts, cases_lt, eqb-false, false≢true}
use Rattle.std.proofs.lemmas.List.Elements.{All-cons, All-head, All-nil, All-tail, All-weaker, filter-append}
use Rattle.std.proofs.lemmas.List.Kept.{AllPairs-cons}
use Rattle.elf_model.specs.Link.Pieces.{is_executable, is_nobits, is_thread_local, is_writable, output_name, same_bool}
use Rattle.elf_model.specs.Link.Placement.{Placed}
use Rattle.elf_model.specs.Own.OwnLayout.{placed_end}
use Rattle.elf_model.specs.declared.records.SectionHeader.{SectionHeader}
use Rattle.elf_model.proofs.Pairs.{AllPairs-head, AllPairs-nil, AllPairs-tail}
use Rattle.debug_image.specs.Sections.{Section, are_alike, begun, grown, has_memory, runs_from, runs_of, same_section, sections_from}

-- two headers are alike in what tells output sections of one name apart
pub record AreAlike (g h : SectionHeader) : Type 0 where
  pub writable : is_writable g ≡ is_writable h
  pub executable : is_executable g ≡ is_executable h
  pub thread_local : is_thread_local g ≡ is_thread_local h
  pub nobits : is_nobits g ≡ is_nobits h

same_bool-true : (a b : Bool) → same_bool a b ≡ true → a ≡ b
same_bool-true true true e = refl
same_bool-true true false e = absurd (false≢true e)
same_bool-true false true e = absurd (false≢true e)
same_bool-true false false e = refl

alike_of : (g h : SectionHeader) → are_alike g h ≡ true → AreAlike g h
alike_of g h e =
    let w : Bool = same_bool (is_writable g) (is_writable h) in
    let x : Bool = same_bool (is_executable g) (is_executable h) in
    let t : Bool = same_bool (is_thread_local g) (is_thread_local h) in
    let n : Bool = same_bool (is_nobits g) (is_nobits h) in
    let three = and_parts (w && x && t) n e in
    let two = and_parts (w && x) t three.0 in
    let one = and_parts w x two.0 in
    record {
      writable = same_bool-true (is_writable g) (is_writable h) one.0;
      executable = same_bool-true (is_executable g) (is_executable h) one.1;
      thread_local = same_bool-true (is_thread_local g) (is_thread_local h) two.1;
      nobits = same_bool-true (is_nobits g) (is_nobits h) three.1;
    }

-- a run of pieces that are so: its first one, and the one with which it ends
pub record IsRunOf (P : Placed → Type 0) (s : Section) : Type 0 where
  pub first : P s.first
  pub last : Placed
  pub last_is : P last
  pub alike : AreAlike s.first.piece.header last.piece.header
  pub end : s.end ≡ placed_end last
  pub some : s.first.at < s.end → 0 < last.piece.size

begun-run : (P : Placed → Type 0) (q : Placed) → P q → IsRunOf P (begun q)
begun-run P q is = record {
  first = is;
  last = q;
  last_is = is;
  alike = record { writable = refl; executable = refl; thread_local = refl; nobits = refl };
  end = refl;
  some = λ low. omega (arith, low);
}

-- the pieces of one section are alike
pub alike_pieces : (count : ℕ) (p q : Placed) → same_section count p.piece q.piece ≡ true → AreAlike p.piece.header q.piece.header
alike_pieces count p q same =
    let here : Bool = same_bool (nat_le count p.piece.object) (nat_le count q.piece.object) in
    let one = and_parts (are_alike p.piece.header q.piece.header && here) (bytes_eq (output_name p.piece.name) (output_name q.piece.name)) same in
    alike_of p.piece.header q.piece.header (and_parts (are_alike p.piece.header q.piece.header) here one.0).0

-- where a run ends that has one more piece
ends_with :
    (b : Bool) (end at : ℕ) (q : Placed) → (q.piece.size == 0) ≡ b → (cond b end (max end (placed_end q)) ≡ end) ⊎ ((cond b end (max end (placed_end q)) ≡ placed_end q) × (0 < q.piece.size))
ends_with true end at q is = inl refl
ends_with false end at q is = by (cases_lt end (placed_end q))
  where
    some : 0 < q.piece.size
    some = let n = eqb-false q.piece.size 0 is in omega (arith, n)

    by : (end < placed_end q) ⊎ (placed_end q ≤ end) → (max end (placed_end q) ≡ end) ⊎ ((max end (placed_end q) ≡ placed_end q) × (0 < q.piece.size))
    by (inl above) = inr (omega (arith, above), some)
    by (inr below) = inl (omega (arith, below))

grown-run :
    (P : Placed → Type 0) (s : Section) (q : Placed) → AreAlike s.first.piece.header q.piece.header → IsRunOf P s → P q → IsRunOf P (grown s q)
grown-run P s q alike run is = by (ends_with (q.piece.size == 0) s.end s.first.at q refl)
  where
    by : ((grown s q).end ≡ s.end) ⊎ (((grown s q).end ≡ placed_end q) × (0 < q.piece.size)) → IsRunOf P (grown s q)
    by (inl same) = record {
      first = run.first;
      last = run.last;
      last_is = run.last_is;
      alike = run.alike;
      end = same ∙ run.end;
      some = λ low. run.some (omega (arith, low, same));
    }
    by (inr more) = record {
      first = run.first;
      last = q;
      last_is = is;
      alike = alike;
      end = more.0;
      some = λ low. more.1;
    }

module _ (count : ℕ) (P : Placed → Type 0) where
  pub runs_from-each : (s : Section) (qs : List Placed) → IsRunOf P s → All P qs → All (IsRunOf P) (runs_from count s qs)
  runs_from-each s [] run all = All-cons (IsRunOf P) s [] run (All-nil (IsRunOf P))
  runs_from-each s (q ∷ qs) run all =
      by (same_section count s.first.piece q.piece) refl (runs_from-each (grown s q) qs) (runs_from-each (begun q) qs)
    where
      here : P q
      here = All-head P q qs all

      rest : All P qs
      rest = All-tail P q qs all

      by :
          (b : Bool) → same_section count s.first.piece q.piece ≡ b →
          (IsRunOf P (grown s q) → All P qs → All (IsRunOf P) (runs_from count (grown s q) qs)) →
          (IsRunOf P (begun q) → All P qs → All (IsRunOf P) (runs_from count (begun q) qs)) →
          All (IsRunOf P) (cond b (runs_from count (grown s q) qs) (s ∷ runs_from count (begun q) qs))
      by true is more other = more (grown-run P s q (alike_pieces count s.first q is) run here) rest
      by false is more other = All-cons (IsRunOf P) s (runs_from count (begun q) qs) run (other (begun-run P q here) rest)

  pub runs_of-each : (qs : List Placed) → All P qs → All (IsRunOf P) (runs_of count qs)
  runs_of-each [] all = All-nil (IsRunOf P)
  runs_of-each (q ∷ qs) all = runs_from-each (begun q) qs (begun-run P q (All-head P q qs all)) (All-tail P q qs all)

-- Runs of a kind, which all pieces of a run share, rise as the pieces of that kind do.
module _ (count : ℕ) (kind : SectionHeader → Bool) (shared : (g h : SectionHeader) → AreAlike g h → kind g ≡ kind h) where
  abbrev pub OfKind : Placed → Bool
  OfKind q = kind q.piece.header

  abbrev pub Rise : Placed → Placed → Type 0
  Rise p q = OfKind p ≡ OfKind q → placed_end p ≤ q.at

  abbrev pub EndsBefore : Section → Placed → Type 0
  EndsBefore s q = OfKind s.first ≡ OfKind q → s.end ≤ q.at

  abbrev pub RunsRise : Section → Section → Type 0
  RunsRise s t = EndsBefore s t.first

  grown-before : (s : Section) (p q : Placed) → OfKind s.first ≡ OfKind p → EndsBefore s q → Rise p q → EndsBefore (grown s p) q
  grown-before s p q same before rise is = by (ends_with (p.piece.size == 0) s.end s.first.at p refl)
    where
      by : ((grown s p).end ≡ s.end) ⊎ (((grown s p).end ≡ placed_end p) × (0 < p.piece.size)) → (grown s p).end ≤ q.at
      by (inl e) = let b = before is in omega (arith, b, e)
      by (inr e) = let b = rise (sym same ∙ is) in omega (arith, b, e)

  grown-all : (s : Section) (p : Placed) (qs : List Placed) → OfKind s.first ≡ OfKind p → All (EndsBefore s) qs → All (Rise p) qs → All (EndsBefore (grown s p)) qs
  grown-all s p [] same before rise = All-nil (EndsBefore (grown s p))
  grown-all s p (q ∷ qs) same before rise =
      All-cons (EndsBefore (grown s p)) q qs
      (grown-before s p q same (All-head (EndsBefore s) q qs before) (All-head (Rise p) q qs rise))
      (grown-all s p qs same (All-tail (EndsBefore s) q qs before) (All-tail (Rise p) q qs rise))

  pub runs_from-rise :
      (s : Section) (qs : List Placed) → All (EndsBefore s) qs → AllPairs Rise qs → AllPairs RunsRise (runs_from count s qs)
  runs_from-rise s [] before rise = AllPairs-cons RunsRise s [] (All-nil (RunsRise s)) (AllPairs-nil RunsRise)
  runs_from-rise s (q ∷ qs) before rise =
      by (same_section count s.first.piece q.piece) refl (runs_from-rise (grown s q) qs) (runs_from-rise (begun q) qs)
    where
      rest : AllPairs Rise qs
      rest = AllPairs-tail Rise q qs rise

      behind : All (Rise q) qs
      behind = AllPairs-head Rise q qs rise

      by :
          (b : Bool) → same_section count s.first.piece q.piece ≡ b →
          (All (EndsBefore (grown s q)) qs → AllPairs Rise qs → AllPairs RunsRise (runs_from count (grown s q) qs)) →
          (All (EndsBefore (begun q)) qs → AllPairs Rise qs → AllPairs RunsRise (runs_from count (begun q) qs)) →
          AllPairs RunsRise (cond b (runs_from count (grown s q) qs) (s ∷ runs_from count (begun q) qs))
      by true is more other =
          more (grown-all s q qs (shared s.first.piece.header q.piece.header (alike_pieces count s.first q is)) (All-tail (EndsBefore s) q qs before) behind) rest
      by false is more other =
          AllPairs-cons RunsRise s (runs_from count (begun q) qs)
          (All-weaker (IsRunOf (EndsBefore s)) (RunsRise s) (λ t r. r.first) (runs_from count (begun q) qs)
          (runs_from-each count (EndsBefore s) (begun q) qs
          (begun-run (EndsBefore s) q (All-head (EndsBefore s) q qs before)) (All-tail (EndsBefore s) q qs before)))
          (other behind rest)

  pub runs_of-rise : (qs : List Placed) → AllPairs Rise qs → AllPairs RunsRise (runs_of count qs)
  runs_of-rise [] rise = AllPairs-nil RunsRise
  runs_of-rise (q ∷ qs) rise = runs_from-rise (begun q) qs (AllPairs-head Rise q qs rise) (AllPairs-tail Rise q qs rise)

-- the sections of what is left where the next piece is of another section
pub other_section :
    (count : ℕ) (s : Section) (q : Placed) (qs : List Placed) (old new : List Section) → same_section count s.first.piece q.piece ≡ false →
    new ≡ old ++ filter has_memory (s ∷ []) → new ++ sections_from count (begun q) qs ≡ old ++ sections_from count s (q ∷ qs)
other_section count s q qs old new other is =
    let rest : List Section = runs_from count (begun q) qs in
    ap (λ (ss : List Section). ss ++ filter has_memory rest) is
    ∙ (append_assoc old (filter has_memory (s ∷ [])) (filter has_memory rest)
    ∙ ap (λ (ss : List Section). old ++ ss)
    (sym (filter-append has_memory (s ∷ []) rest)
    ∙ ap (λ (b : Bool). filter has_memory (cond b (runs_from count (grown s q) qs) (s ∷ rest))) (sym other)))
