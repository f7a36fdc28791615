-- The names of a link are right by its addresses exactly where they are right.
use Rattle.std.proofs.Common.{◌≡◌, ◌∙◌, ◌⊎◌, inl, inr, ℕ, ◌+◌, ◌<◌, ◌≤◌, List, [], ◌∷◌, Option, None, Some, subst, sym}
use Rattle.std.specs.Prelude.{◌++◌, ◌↔◌, All, IfSome, codes, unwrap_or}
use Rattle.std.specs.Borrow.{Bor}
use Rattle.std.specs.BTreeMap.{BTreeMap}
use Rattle.std.proofs.lemmas.List.Elements.{All-cons, All-head, All-nil, All-tail, All-weaker}
use Rattle.elf_model.specs.Image.MemoryImage.{loads}
use Rattle.elf_model.specs.Link.LinkerNames.{named_output}
use Rattle.elf_model.specs.Link.LinkerValues.{end_of_pieces, is_code_piece, is_file_data, is_zero_data, start_of_pieces}
use Rattle.elf_model.specs.Link.Placement.{Covers}
use Rattle.elf_model.specs.declared.bound.Bound.{Bound}
use Rattle.elf_model.specs.declared.bound.Bound.TheVariants.{CodeEnd, DataEnd, GotStart, ImageEnd, ImageStart, OutputEnd, OutputStart, ZeroStart}
use Rattle.elf_model.specs.declared.thing.Thing.{Thing}
use Rattle.check_link.specs.ByName.{found_in}
use Rattle.check_link.specs.Outputs.{AreSpans, end_of, start_of}
use Rattle.check_link.specs.declared.bounds.Span.{Span}
use Rattle.judge_model.specs.Certificates.{NameRow}
use Rattle.judge_model.specs.Links.{ForeignLink, placed_of}
use Rattle.judge_model.specs.Memory.{IsInReach}
use Rattle.judge_model.specs.Names.{AreNamesRight, IsAt, IsBoundAt, IsBoundRight, IsCodeEnd, IsDataEnd, IsEnd, IsImageEnd, IsPairRight, IsZeroStart, EndsSegment, bound_of, pair, pairs, is_small_data, start_of_output}
use Rattle.judge_model.specs.Placed.{things_of}
use Rattle.judge_model.specs.declared.certificate.StretchLine.{StretchLine}
use Rattle.link_fields.specs.Parts.{Parts, parts_of}
use Rattle.name_judge.specs.Bounds.{AreMarks, AreNamesBy, ArePairsOne, BeginsAt, CodeEndsAt, DataEndsAt, EndsAt, IsBoundBy, IsEndOfAll, IsNoEnd, IsPairOne, IsReached, IsRowRight, SpanEnds, SpanStarts, ZerosStart}
use Rattle.name_judge.specs.Clear.{EndsBy, IsBeside, IsLastIn, IsNextIn}
use Rattle.name_judge.specs.declared.marks.Marks.{Marks}

-- nothing is between two addresses
clear_of : (ts : List Thing) (from to : ℕ) → All (IsBeside from to) ts → (a : ℕ) → from ≤ a → a < to → All (λ t. ¬ Covers t a) ts
clear_of ts from to all a behind before = All-weaker (IsBeside from to) (λ t. ¬ Covers t a) (λ t b. b.beside a behind before) ts all

beside_of :
    (ts : List Thing) (from to : ℕ) → ((a : ℕ) → from ≤ a → a < to → All (λ t. ¬ Covers t a) ts) → All (IsBeside from to) ts
beside_of ts from to clear = λ i d within. record { beside = λ a behind before. clear a behind before i d within }

if_some : {X : Type 0} (P Q : X → Type 0) (o : Option X) → ((x : X) → P x ↔ Q x) → IfSome o P ↔ IfSome o Q
if_some P Q None both = (λ h. h, λ h. h)
if_some P Q (Some x) both = both x

module _ (l : ForeignLink) where
  module _ (m : Marks) (marks : AreMarks (loads l.image) (placed_of l) (things_of l) (l.certificate.notes ++ l.certificate.areas) m) where
    reach_to : (v : ℕ) → IsReached (loads l.image) m v → IsInReach (loads l.image) v
    reach_to v r = record { low = r.low; high = subst (λ (n : ℕ). v ≤ n) marks.limit r.high }

    reach_of : (v : ℕ) → IsInReach (loads l.image) v → IsReached (loads l.image) m v
    reach_of v r = record { low = r.low; high = subst (λ (n : ℕ). v ≤ n) (sym marks.limit) r.high }

    end_iff : (end : ℕ) (next : Option ℕ) (v : ℕ) → IsNextIn (things_of l) end next → EndsAt (loads l.image) m end next v ↔ IsEnd l end v
    end_iff end next v are = (to, from)
      where
        to : EndsAt (loads l.image) m end next v → IsEnd l end v
        to (inl e) = inl e
        to (inr (inl b)) =
            inr (inl (record { behind = b.behind; inside = b.inside; clear = clear_of (things_of l) end v ((are.told v).0 b.clear) }))
        to (inr (inr n)) = inr (inr (n.none, reach_to v n.reached))

        from : IsEnd l end v → EndsAt (loads l.image) m end next v
        from (inl e) = inl e
        from (inr (inl b)) =
            inr (inl (record { behind = b.behind; inside = b.inside; clear = (are.told v).1 (beside_of (things_of l) end v b.clear) }))
        from (inr (inr n)) = inr (inr (record { none = n.0; reached = reach_of v n.1 }))

    data_iff : (v : ℕ) → DataEndsAt (loads l.image) m v ↔ IsDataEnd l v
    data_iff v = (to, from)
      where
        all : EndsAt (loads l.image) m m.data_end m.data_next v ↔ IsEnd l (end_of_pieces is_file_data (placed_of l)) v
        all =
            subst (λ (n : ℕ). EndsAt (loads l.image) m m.data_end m.data_next v ↔ IsEnd l n v) marks.data_end
            (end_iff m.data_end m.data_next v marks.data_next)

        small : EndsAt (loads l.image) m m.small_end m.small_next v ↔ IsEnd l (end_of_pieces is_small_data (placed_of l)) v
        small =
            subst (λ (n : ℕ). EndsAt (loads l.image) m m.small_end m.small_next v ↔ IsEnd l n v) marks.small_end
            (end_iff m.small_end m.small_next v marks.small_next)

        to : DataEndsAt (loads l.image) m v → IsDataEnd l v
        to (inl e) = inl (all.0 e)
        to (inr e) = inr (small.0 e)

        from : IsDataEnd l v → DataEndsAt (loads l.image) m v
        from (inl e) = inl (all.1 e)
        from (inr e) = inr (small.1 e)

    code_iff : (v : ℕ) → CodeEndsAt (loads l.image) m v ↔ IsCodeEnd l (end_of_pieces is_code_piece (placed_of l)) v
    code_iff v = subst (λ (n : ℕ). CodeEndsAt (loads l.image) m v ↔ IsCodeEnd l n v) marks.code_end (to, from)
      where
        own : EndsAt (loads l.image) m m.code_end m.code_next v ↔ IsEnd l m.code_end v
        own = end_iff m.code_end m.code_next v marks.code_next

        to : CodeEndsAt (loads l.image) m v → IsCodeEnd l m.code_end v
        to (inl e) = inl (own.0 e)
        to (inr s) = inr s

        from : IsCodeEnd l m.code_end v → CodeEndsAt (loads l.image) m v
        from (inl e) = inl (own.1 e)
        from (inr s) = inr s

    filled_to : (v : ℕ) → m.filled_end ≤ v → All (λ n. n.address + n.size ≤ v) (l.certificate.notes ++ l.certificate.areas)
    filled_to v h =
        All-weaker (EndsBy v) (λ n. n.address + n.size ≤ v) (λ n e. e.end) (l.certificate.notes ++ l.certificate.areas) ((marks.filled_end.told v).0 h)

    filled_of : (v : ℕ) → All (λ n. n.address + n.size ≤ v) (l.certificate.notes ++ l.certificate.areas) → m.filled_end ≤ v
    filled_of v h =
        (marks.filled_end.told v).1
        (All-weaker (λ n. n.address + n.size ≤ v) (EndsBy v) (λ n e. record { end = e }) (l.certificate.notes ++ l.certificate.areas) h)

    zeros_iff :
        (start : Option ℕ) (v : ℕ) → IfSome start (λ a. IsLastIn (things_of l) a m.zero_last) →
        ZerosStart (loads l.image) m start v ↔ IsZeroStart l v start
    zeros_iff None v are = (
      λ h. record {
        at = at_to h.at;
        behind = subst (λ (n : ℕ). n ≤ v) marks.some_end h.kept.behind;
        alone = λ none. subst (λ (n : ℕ). n ≤ v) marks.image_end (h.kept.alone (marks.some_end ∙ none));
        spares = λ none. filled_to v (h.kept.spares (marks.some_end ∙ none));
      },
      λ h. record {
        at = at_of h.at;
        kept = record {
          behind = subst (λ (n : ℕ). n ≤ v) (sym marks.some_end) h.behind;
          alone = λ none. subst (λ (n : ℕ). n ≤ v) (sym marks.image_end) (h.alone (sym marks.some_end ∙ none));
          spares = λ none. filled_of v (h.spares (sym marks.some_end ∙ none));
        };
      },
    )
      where
        at_to : DataEndsAt (loads l.image) m v ⊎ (m.empty_start ≡ Some v) → IsDataEnd l v ⊎ (start_of_pieces is_zero_data (placed_of l) ≡ Some v)
        at_to (inl e) = inl ((data_iff v).0 e)
        at_to (inr e) = inr (sym marks.empty_start ∙ e)

        at_of : IsDataEnd l v ⊎ (start_of_pieces is_zero_data (placed_of l) ≡ Some v) → DataEndsAt (loads l.image) m v ⊎ (m.empty_start ≡ Some v)
        at_of (inl e) = inl ((data_iff v).1 e)
        at_of (inr e) = inr (marks.empty_start ∙ e)
    zeros_iff (Some start) v are = (to, from)
      where
        to : BeginsAt (loads l.image) start m.zero_last v → IsZeroStart l v (Some start)
        to (inl e) = inl e
        to (inr b) = inr (record { ahead = b.ahead; inside = b.inside; clear = clear_of (things_of l) v start ((are.told v).0 b.clear) })

        from : IsZeroStart l v (Some start) → BeginsAt (loads l.image) start m.zero_last v
        from (inl e) = inl e
        from (inr b) = inr (record { ahead = b.ahead; inside = b.inside; clear = (are.told v).1 (beside_of (things_of l) v start b.clear) })

    nowhere_to : (v : ℕ) → (v ≡ 0) ⊎ IsReached (loads l.image) m v → (v ≡ 0) ⊎ IsInReach (loads l.image) v
    nowhere_to v (inl e) = inl e
    nowhere_to v (inr r) = inr (reach_to v r)

    nowhere_of : (v : ℕ) → (v ≡ 0) ⊎ IsInReach (loads l.image) v → (v ≡ 0) ⊎ IsReached (loads l.image) m v
    nowhere_of v (inl e) = inl e
    nowhere_of v (inr r) = inr (reach_of v r)

    span_start : (o : Option Span) (v : ℕ) → SpanStarts (loads l.image) m o v ↔ IsAt l v (unwrap_or (start_of o) 0) (start_of o)
    span_start None v = (nowhere_to v, nowhere_of v)
    span_start (Some s) v = (λ h. h, λ h. h)

    span_end : (o : Option Span) (v : ℕ) → SpanEnds (loads l.image) m o v ↔ IsAt l v (end_of o) (start_of o)
    span_end None v = (nowhere_to v, nowhere_of v)
    span_end (Some s) v = (λ h. h, λ h. h)

    all_end : (v : ℕ) → IsEndOfAll m v ↔ IsImageEnd l v
    all_end v = (
      λ h. record {
        behind = subst (λ (n : ℕ). n ≤ v) marks.image_end h.behind;
        filled = filled_to v h.filled;
        near = subst (λ (n : ℕ). v ≤ n) marks.limit h.near;
      },
      λ h. record {
        behind = subst (λ (n : ℕ). n ≤ v) (sym marks.image_end) h.behind;
        filled = filled_of v h.filled;
        near = subst (λ (n : ℕ). v ≤ n) (sym marks.limit) h.near;
      },
    )

    module _ (spans : BTreeMap (Bor (List ℕ)) Span) (are : AreSpans (placed_of l) spans) where
      bound_iff :
          (name : List ℕ) (v : ℕ) (b : Bound) →
          IsBoundBy (loads l.image) m l.certificate.got (found_in spans (named_output name)) v b ↔ IsBoundAt l name v b
      bound_iff name v ImageStart = (λ h. h, λ h. h)
      bound_iff name v CodeEnd = code_iff v
      bound_iff name v DataEnd = data_iff v
      bound_iff name v ZeroStart =
          subst (λ (o : Option ℕ). ZerosStart (loads l.image) m m.zero_start v ↔ IsZeroStart l v o)
          marks.zero_start (zeros_iff m.zero_start v marks.zero_last)
      bound_iff name v ImageEnd = all_end v
      bound_iff name v GotStart = (λ h. h, λ h. h)
      bound_iff name v OutputStart =
          let o = found_in spans (named_output name) in
          subst (λ (s : Option ℕ). SpanStarts (loads l.image) m o v ↔ IsAt l v (unwrap_or s 0) s) (are.starts (named_output name)) (span_start o v)
      bound_iff name v OutputEnd =
          let o = found_in spans (named_output name) in
          subst (λ (n : ℕ). SpanEnds (loads l.image) m o v ↔ IsAt l v n (start_of_output l (named_output name))) (are.ends (named_output name))
          (subst (λ (s : Option ℕ). SpanEnds (loads l.image) m o v ↔ IsAt l v (end_of o) s) (are.starts (named_output name)) (span_end o v))

      row_to : (row : NameRow) → IsRowRight (parts_of l) m spans row → IsBoundRight l row
      row_to row r none =
          (if_some (IsBoundBy (loads l.image) m l.certificate.got (found_in spans (named_output row.name)) row.value)
          (IsBoundAt l row.name row.value) (bound_of l row.name) (bound_iff row.name row.value)).0
          (r.right none)

      row_of : (row : NameRow) → IsBoundRight l row → IsRowRight (parts_of l) m spans row
      row_of row r = record {
        right = λ none.
            (if_some (IsBoundBy (loads l.image) m l.certificate.got (found_in spans (named_output row.name)) row.value)
            (IsBoundAt l row.name row.value) (bound_of l row.name) (bound_iff row.name row.value)).1
            (r none);
      }

      pair_to : (first last : List ℕ) → IsPairOne (parts_of l) spans first last → IsPairRight l (pair first last)
      pair_to first last p none = p.one (are.starts (named_output first) ∙ none)

      pair_of : (first last : List ℕ) → IsPairRight l (pair first last) → IsPairOne (parts_of l) spans first last
      pair_of first last p = record { one = λ none. p (sym (are.starts (named_output first)) ∙ none) }

      pairs_to : ArePairsOne (parts_of l) spans → All (IsPairRight l) pairs
      pairs_to p =
          let a = pair (codes "__init_array_start") (codes "__init_array_end") in
          let b = pair (codes "__fini_array_start") (codes "__fini_array_end") in
          let c = pair (codes "__preinit_array_start") (codes "__preinit_array_end") in
          All-cons (IsPairRight l) a (b ∷ c ∷ []) (pair_to a.first a.last p.init)
          (All-cons (IsPairRight l) b (c ∷ []) (pair_to b.first b.last p.fini)
          (All-cons (IsPairRight l) c [] (pair_to c.first c.last p.preinit) (All-nil (IsPairRight l))))

      pairs_of : All (IsPairRight l) pairs → ArePairsOne (parts_of l) spans
      pairs_of all =
          let a = pair (codes "__init_array_start") (codes "__init_array_end") in
          let b = pair (codes "__fini_array_start") (codes "__fini_array_end") in
          let c = pair (codes "__preinit_array_start") (codes "__preinit_array_end") in
          let bs = All-tail (IsPairRight l) a (b ∷ c ∷ []) all in
          let cs = All-tail (IsPairRight l) b (c ∷ []) bs in
          record {
            init = pair_of a.first a.last (All-head (IsPairRight l) a (b ∷ c ∷ []) all);
            fini = pair_of b.first b.last (All-head (IsPairRight l) b (c ∷ []) bs);
            preinit = pair_of c.first c.last (All-head (IsPairRight l) c [] cs);
          }

      own : AreNamesBy (parts_of l) m spans ↔ AreNamesRight l
      own = (
        λ r. record {
          bounds = All-weaker (IsRowRight (parts_of l) m spans) (IsBoundRight l) row_to l.certificate.names r.rows;
          paired = pairs_to r.pairs;
        },
        λ r. record {
          rows = All-weaker (IsBoundRight l) (IsRowRight (parts_of l) m spans) row_of l.certificate.names r.bounds;
          pairs = pairs_of r.paired;
        },
      )

  -- by what the code has of a link
  pub names_by :
      (p : Parts) (ts : List Thing) (ns : List StretchLine) (m : Marks) (spans : BTreeMap (Bor (List ℕ)) Span) →
      parts_of l ≡ p → things_of l ≡ ts → l.certificate.notes ++ l.certificate.areas ≡ ns → AreMarks (loads p.image) p.placed ts ns m → AreSpans p.placed spans →
      AreNamesBy p m spans ↔ AreNamesRight l
  names_by p ts ns m spans parts things notes marks are =
      let seen =
      subst (λ (q : Parts). AreMarks (loads q.image) q.placed (things_of l) (l.certificate.notes ++ l.certificate.areas) m) (sym parts)
      (subst (λ (n : List StretchLine). AreMarks (loads p.image) p.placed (things_of l) n m) (sym notes)
      (subst (λ (t : List Thing). AreMarks (loads p.image) p.placed t ns m) (sym things) marks)) in
      let told = subst (λ (q : Parts). AreSpans q.placed spans) (sym parts) are in
      subst (λ (q : Parts). AreNamesBy q m spans ↔ AreNamesRight l) parts (own m seen spans told)
