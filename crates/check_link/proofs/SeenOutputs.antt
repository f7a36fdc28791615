-- Tables by output names, one piece more; and what they tell in the end.
use Rattle.std.proofs.Common.{◌≡◌, ℕ, ◌+◌, ◌<◌, ◌≤◌, ◌&&◌, ◌||◌, not, Bool, true, false, cond, max, List, [], ◌∷◌, Option, None, Some, drop, get_or, length, refl, sym, ap, ◌∙◌, arith}
use Rattle.std.specs.Prelude.{◌↔◌, All, is_some, option_map}
use Rattle.std.specs.Borrow.{Bor}
use Rattle.std.specs.BTreeMap.{BTreeMap}
use Rattle.std.specs.List.{list_all, list_any}
use Rattle.std.specs.Option.{option_map_or}
use Rattle.std.specs.Str.{bytes_eq}
use Rattle.std.proofs.lemmas.Bool.{and_from, and_parts, false≢true}
use Rattle.std.proofs.lemmas.List.{drop_all}
use Rattle.std.proofs.lemmas.List.Elements.{All-cons, All-head, All-nil, All-tail}
use Rattle.std.proofs.lemmas.List.Kept.{AllPairs-cons}
use Rattle.std.proofs.lemmas.Slice.Eq.{bytes_eq-Decides}
use Rattle.elf_model.proofs.Pairs.{AllPairs-head, AllPairs-nil, AllPairs-tail}
use Rattle.elf_model.proofs.PieceBounds.{earlier, further}
use Rattle.elf_model.proofs.Rests.{rest_at}
use Rattle.elf_model.proofs.SameOutput.{same_output-sym, same_output-trans}
use Rattle.elf_model.specs.Link.LinkerValues.{least_of}
use Rattle.elf_model.specs.Link.Pieces.{Piece, is_executable, is_nobits, is_of_output, is_thread_local, is_writable, output_name, same_bool, same_output}
use Rattle.elf_model.specs.Link.Placement.{Placed}
use Rattle.check_link.specs.ByName.{found_in}
use Rattle.check_link.specs.OutputSections.{same_flags}
use Rattle.check_link.specs.Outputs.{AreOne, Seen, end_of, seen_all, seen_in, seen_more, seen_view, start_of, with_piece}
use Rattle.check_link.specs.Views.{piece_view, piece_views}
use Rattle.check_link.specs.declared.bounds.Span.{Span}
use Rattle.check_link.specs.declared.output_names.Output.{Output}
use Rattle.check_link.specs.declared.things.Piece as code

-- what is known of each output name, once a piece of one came in
pub seen_put :
    (old : List ℕ → Option Output) (next : Option Output) (name n : List ℕ) (p : Piece) (v : Output) → name ≡ output_name p.name →
    next ≡ cond (bytes_eq name n) (Some v) (old n) → seen_view v ≡ with_piece p (option_map seen_view (old name)) →
    option_map seen_view next ≡ seen_more n p (option_map seen_view (old n))
seen_put old next name n p v named e is =
    ap (option_map seen_view) e
    ∙ (by (bytes_eq name n) refl
    ∙ ap (λ (m : List ℕ). cond {A = Option Seen} (bytes_eq m n) (Some (with_piece p (option_map seen_view (old n)))) (option_map seen_view (old n))) named)
  where
    by :
        (b : Bool) → bytes_eq name n ≡ b →
        option_map seen_view (cond b (Some v) (old n))
        ≡ cond {A = Option Seen} b (Some (with_piece p (option_map seen_view (old n)))) (option_map seen_view (old n))
    by true same = ap (λ (s : Seen). Some s) (is ∙ ap (λ (m : List ℕ). with_piece p (option_map seen_view (old m))) ((bytes_eq-Decides name n).0 same))
    by false same = refl

module _ (n : List ℕ) where
  module _ (xs : List code.Piece) (i : ℕ) where
    pub seen_step :
        (d : code.Piece) (o next whole : Option Seen) → i < length xs → next ≡ seen_more n (piece_view (get_or xs i d)) o →
        seen_all n (piece_views (drop i xs)) o ≡ whole → seen_all n (piece_views (drop (i + 1) xs)) next ≡ whole
    seen_step d o next whole within e so_far =
        ap (seen_all n (piece_views (drop (i + 1) xs))) e
        ∙ (sym (ap (λ (ys : List code.Piece). seen_all n (piece_views ys) o) (rest_at xs i d within)) ∙ so_far)

    pub seen_end : (o whole : Option Seen) → length xs ≤ i → seen_all n (piece_views (drop i xs)) o ≡ whole → o ≡ whole
    seen_end o whole behind so_far = sym (ap (λ (ys : List code.Piece). seen_all n (piece_views ys) o) (drop_all i xs behind)) ∙ so_far

  -- something is known of an output name where a piece is of it
  some_seen : (ps : List Piece) (o : Option Seen) → is_some (seen_all n ps o) ≡ (is_some o || list_any (is_of_output n) ps)
  some_seen [] None = refl
  some_seen [] (Some s) = refl
  some_seen (p ∷ ps) o = some_seen ps (seen_more n p o) ∙ by (is_of_output n p) o
    where
      by :
          (b : Bool) (q : Option Seen) →
          (is_some (cond b (Some (with_piece p q)) q) || list_any (is_of_output n) ps) ≡ (is_some q || (b || list_any (is_of_output n) ps))
      by true None = refl
      by true (Some s) = refl
      by false None = refl
      by false (Some s) = refl

  pub seen_any : (ps : List Piece) → is_some (seen_all n ps None) ≡ list_any (is_of_output n) ps
  seen_any ps = some_seen ps None

  -- what is known in the end, by the first piece
  abbrev is_alike : Piece → Piece → Bool
  is_alike p q = not (is_of_output n q) || same_flags p q

  and_assoc : (a b c : Bool) → ((a && b) && c) ≡ (a && (b && c))
  and_assoc true b c = refl
  and_assoc false b c = refl

  and_true : (a : Bool) → (a && true) ≡ a
  and_true true = refl
  and_true false = refl

  seen_from : (ps : List Piece) (p : Piece) (b : Bool) → seen_all n ps (Some (p, b)) ≡ Some (p, b && list_all (is_alike p) ps)
  seen_from [] p b = ap (λ (c : Bool). Some (p, c)) (sym (and_true b))
  seen_from (q ∷ qs) p b = by (is_of_output n q) (seen_from qs p)
    where
      by :
          (t : Bool) → ((c : Bool) → seen_all n qs (Some (p, c)) ≡ Some (p, c && list_all (is_alike p) qs)) →
          seen_all n qs (cond t (Some (p, b && same_flags p q)) (Some (p, b))) ≡ Some (p, b && ((not t || same_flags p q) && list_all (is_alike p) qs))
      by true rest = rest (b && same_flags p q) ∙ ap (λ (c : Bool). Some (p, c)) (and_assoc b (same_flags p q) (list_all (is_alike p) qs))
      by false rest = rest b

  with_true : (a b c d e : Bool) → a ≡ true → (a && b && c && d && e) ≡ (b && c && d && e)
  with_true a b c d e t = rw t refl

  -- pieces of the name are of one output section where their flags are alike
  by_flags : (p q : Piece) → is_of_output n p ≡ true → is_of_output n q ≡ true → same_output p q ≡ same_flags p q
  unfolding same_output
  by_flags p q of_p of_q =
      let same : output_name p.name ≡ output_name q.name =
      (bytes_eq-Decides (output_name p.name) n).0 of_p ∙ sym ((bytes_eq-Decides (output_name q.name) n).0 of_q) in
      with_true (bytes_eq (output_name p.name) (output_name q.name)) (same_bool (is_writable p.header) (is_writable q.header))
      (same_bool (is_executable p.header) (is_executable q.header)) (same_bool (is_thread_local p.header) (is_thread_local q.header))
      (same_bool (is_nobits p.header) (is_nobits q.header)) ((bytes_eq-Decides (output_name p.name) (output_name q.name)).1 same)

  -- all that are of the name are of one output section with a piece
  abbrev AreAlike : Piece → List Piece → Type 0
  AreAlike p ps = All (λ q. is_of_output n q ≡ true → same_output p q ≡ true) ps

  alike_from : (p : Piece) (ps : List Piece) → is_of_output n p ≡ true → list_all (is_alike p) ps ≡ true → AreAlike p ps
  alike_from p [] own e = All-nil (λ q. is_of_output n q ≡ true → same_output p q ≡ true)
  alike_from p (q ∷ qs) own e =
      let parts = and_parts (is_alike p q) (list_all (is_alike p) qs) e in
      All-cons (λ r. is_of_output n r ≡ true → same_output p r ≡ true) q qs
      (λ of. by_flags p q own of ∙ (sym (ap (λ (b : Bool). not b || same_flags p q) of) ∙ parts.0)) (alike_from p qs own parts.1)

  alike_all : (p : Piece) (ps : List Piece) → is_of_output n p ≡ true → AreAlike p ps → list_all (is_alike p) ps ≡ true
  alike_all p [] own all = refl
  alike_all p (q ∷ qs) own all =
      and_from (is_alike p q) (list_all (is_alike p) qs)
      (by (is_of_output n q) (λ of. sym (by_flags p q own of) ∙ All-head (λ r. is_of_output n r ≡ true → same_output p r ≡ true) q qs all of))
      (alike_all p qs own (All-tail (λ r. is_of_output n r ≡ true → same_output p r ≡ true) q qs all))
    where
      by : (b : Bool) → (b ≡ true → same_flags p q ≡ true) → (not b || same_flags p q) ≡ true
      by true same = same refl
      by false same = refl

  -- two pieces that are both of the name are of one output section
  abbrev BothSame : Piece → Piece → Type 0
  BothSame p q = is_of_output n p ≡ true → is_of_output n q ≡ true → same_output p q ≡ true

  one_from : (p : Piece) (ps : List Piece) → AreAlike p ps → AreOne (p ∷ ps) n
  one_from p ps all =
      AllPairs-cons BothSame p ps (λ k d within of_p of_q. all k d within of_q)
      (λ i j d low high of_i of_j.
      let a = all i d (omega (arith, low, high)) of_i in
      same_output-trans (get_or ps i d) p (get_or ps j d) (same_output-sym p (get_or ps i d) a) (all j d high of_j))

  -- what is known of a name says whether its pieces are of one output section
  abbrev alike : Option Seen → Bool
  alike o = option_map_or (λ s. s.1) o true

  pub one_told : (ps : List Piece) → (alike (seen_all n ps None) ≡ true) ↔ AreOne ps n
  one_told [] = (λ e. AllPairs-nil BothSame, λ one. refl)
  one_told (p ∷ ps) = by (is_of_output n p) refl (one_told ps)
    where
      by :
          (b : Bool) → is_of_output n p ≡ b → ((alike (seen_all n ps None) ≡ true) ↔ AreOne ps n) →
          (alike (seen_all n ps (cond b (Some (p, true)) None)) ≡ true) ↔ AreOne (p ∷ ps) n
      by true of rest =
          let told : alike (seen_all n ps (Some (p, true))) ≡ list_all (is_alike p) ps = ap alike (seen_from ps p true) in (
            λ e. one_from p ps (alike_from p ps of (sym told ∙ e)),
            λ one. told ∙ alike_all p ps of (λ k d within of_q. AllPairs-head BothSame p ps one k d within of of_q),
          )
      by false of rest = (
        λ e. AllPairs-cons BothSame p ps (λ k d within of_p of_q. absurd (false≢true (sym of ∙ of_p))) (rest.0 e),
        λ one. rest.1 (AllPairs-tail BothSame p ps one),
      )

  -- what a table has for the name says the same
  pub one_in_table :
      (ps : List Piece) (table : BTreeMap (Bor (List ℕ)) Output) → seen_in table n ≡ seen_all n ps None →
      (o : Option Output) → found_in table n ≡ o → (b : Bool) → b ≡ option_map_or (λ t. t.alike) o true → (b ≡ true) ↔ AreOne ps n
  one_in_table ps table are o got b is =
      let e : b ≡ alike (seen_all n ps None) = is ∙ (seen o ∙ ap alike (sym (ap (option_map seen_view) got) ∙ are)) in
      (λ t. (one_told ps).0 (sym e ∙ t), λ one. e ∙ (one_told ps).1 one)
    where
      seen : (p : Option Output) → option_map_or (λ t. t.alike) p true ≡ alike (option_map seen_view p)
      seen None = refl
      seen (Some t) = refl

  pub any_in_table :
      (ps : List Piece) (table : BTreeMap (Bor (List ℕ)) Output) → seen_in table n ≡ seen_all n ps None →
      is_some (found_in table n) ≡ list_any (is_of_output n) ps
  any_in_table ps table are = seen (found_in table n) ∙ (ap is_some are ∙ seen_any ps)
    where
      seen : (p : Option Output) → is_some p ≡ is_some (option_map seen_view p)
      seen None = refl
      seen (Some t) = refl

-- The spans of output names, once a piece of one came in.
module _ (old : List ℕ → Option Span) (next : Option Span) (name n : List ℕ) (q : Placed) (v : Span) (named : name ≡ output_name q.piece.name)
    (put : next ≡ cond (bytes_eq name n) (Some v) (old n)) where
  pub start_put : v.start ≡ least_of q.at (start_of (old name)) → start_of next ≡ earlier (is_of_output n) (start_of (old n)) q
  start_put is =
      ap start_of put
      ∙ (by (bytes_eq name n) refl ∙ ap (λ (m : List ℕ). cond {A = Option ℕ} (bytes_eq m n) (Some (least_of q.at (start_of (old n)))) (start_of (old n))) named)
    where
      by :
          (b : Bool) → bytes_eq name n ≡ b →
          start_of (cond b (Some v) (old n)) ≡ cond {A = Option ℕ} b (Some (least_of q.at (start_of (old n)))) (start_of (old n))
      by true same = ap (λ (x : ℕ). Some x) (is ∙ ap (λ (m : List ℕ). least_of q.at (start_of (old m))) ((bytes_eq-Decides name n).0 same))
      by false same = refl

  pub end_put : v.end ≡ max (end_of (old name)) (q.at + q.piece.size) → end_of next ≡ further (is_of_output n) (end_of (old n)) q
  end_put is =
      ap end_of put
      ∙ (by (bytes_eq name n) refl ∙ ap (λ (m : List ℕ). cond {A = ℕ} (bytes_eq m n) (max (end_of (old n)) (q.at + q.piece.size)) (end_of (old n))) named)
    where
      by :
          (b : Bool) → bytes_eq name n ≡ b →
          end_of (cond b (Some v) (old n)) ≡ cond {A = ℕ} b (max (end_of (old n)) (q.at + q.piece.size)) (end_of (old n))
      by true same = is ∙ ap (λ (m : List ℕ). max (end_of (old m)) (q.at + q.piece.size)) ((bytes_eq-Decides name n).0 same)
      by false same = refl
