-- The own image file is an image that a loader maps: its headers, their order and its segments are right.
use Rattle.std.proofs.Common.{◌≡◌, ◌⊎◌, inl, inr, ℕ, ◌+◌, ◌-◌, ◌*◌, ◌<◌, ◌≤◌, true, false, List, [], ◌∷◌, ◌++◌, length, get_or, refl, sym, ◌∙◌, ap, subst, arith, take, drop}
use Rattle.std.specs.Prelude.{All, AllPairs, filter}
use Rattle.std.specs.List.{prefix_len}
use Rattle.std.proofs.lemmas.Bool.{eq-eqb, ne_eqb}
use Rattle.std.proofs.lemmas.List.{append-nil, drop_at, get_or-append_right, get_or_append_left, length-append, take_at}
use Rattle.std.proofs.lemmas.List.Elements.{All-append, All-cons, All-get_or, All-head, All-nil, All-weaker, filter-append}
use Rattle.std.proofs.lemmas.List.Sums.{prefix_len_is}
use Rattle.elf_model.specs.Own.ImageFile.{HeaderFields, own_file_header, stack_header}
use Rattle.elf_model.specs.Image.MemoryImage.{AreGoodSegments, HasNoSections, HasSections, HoldsHeaders, IsGoodLoad, IsGoodStack, IsGoodThreadBlock, IsImage, IsImageHeader, IsInOrder, IsTail, ShareNoPage, file_end, first_address, headers_size, is_load, is_thread_block, loads, loads_in, thread_blocks}
use Rattle.elf_model.specs.Link.Placement.{headers_thing}
use Rattle.elf_model.specs.declared.records.FileHeader.{FileHeader}
use Rattle.elf_model.specs.declared.records.ProgramHeader.{ProgramHeader}
use Rattle.own_link.proofs.Ends.{FileEndsBelow, file_end-holds}
use Rattle.elf_model.proofs.Finding.{filter-all, filter-none}
use Rattle.own_link.proofs.ImageRead.{AreThreadHeaders, IsOwnFile, IsThreadHeader, SuitsFile, table_of}
use Rattle.own_link.proofs.SegmentHeaders.{AreOwnSegments, IsGoodSegment}

-- which headers are PT_LOAD, and which PT_TLS
is_a_load : (base : ℕ) (h : ProgramHeader) → IsGoodSegment base h → is_load h ≡ true
is_a_load base h g = eq-eqb h.p_type 1 g.type_

no_block : (base : ℕ) (h : ProgramHeader) → IsGoodSegment base h → is_thread_block h ≡ false
no_block base h g = ne_eqb h.p_type 7 (λ e. omega (arith, e, g.type_))

module _ (base size : ℕ) (hs : List ProgramHeader) (own : AreOwnSegments base size hs) where
  all_loads : All (λ h. is_load h ≡ true) hs
  all_loads = All-weaker (IsGoodSegment base) (λ h. is_load h ≡ true) (is_a_load base) hs own.each

  some_segment : 0 < length hs
  some_segment = let e = ap length own.segments_are in omega (arith, e)

  first_is : first_address hs ≡ base
  first_is = ap first_address own.segments_are ∙ own.first_address

  holds_headers : HoldsHeaders size hs
  holds_headers = subst (HoldsHeaders size) (sym own.segments_are) own.first_holds

  good_load : (n : ℕ) (h : ProgramHeader) → IsGoodSegment base h → FileEndsBelow n h → IsGoodLoad base n h
  good_load n h g below = record {
    some_rights = g.rights_low;
    no_other_rights = g.rights_high;
    align = g.align;
    physical = g.physical;
    on_a_page = g.page;
    some_memory = g.some;
    file_in_memory = g.file_in_memory;
    end = g.end;
    offset = g.offset;
    inside = below;
  }

  loads_good : (n : ℕ) → file_end hs ≤ n → All (IsGoodLoad base n) hs
  loads_good n long k d within = good_load n (get_or hs k d) (own.each k d within) (file_end-holds hs n long k d within)

  good_stack : IsGoodStack stack_header
  good_stack = record {
    rights = refl;
    offset = refl;
    address = refl;
    physical = refl;
    file_size = refl;
    memory_size = refl;
    align = refl;
  }

  -- The table of headers, with those of thread blocks.
  module _ (ts : List ProgramHeader) (blocks : AreThreadHeaders base ts) where
    -- what holds of each segment's header, of each thread block's and of the stack's holds of the table
    in_rest : (P : ProgramHeader → Type 0) → ((h : ProgramHeader) → IsThreadHeader base h → P h) → P stack_header → All P (ts ++ stack_header ∷ [])
    in_rest P thread stack =
        All-append P ts (stack_header ∷ []) (All-weaker (IsThreadHeader base) P thread ts blocks.each)
        (All-cons P stack_header [] stack (All-nil P))

    in_table :
        (P : ProgramHeader → Type 0) → ((h : ProgramHeader) → IsGoodSegment base h → P h) →
        ((h : ProgramHeader) → IsThreadHeader base h → P h) → P stack_header → All P (table_of hs ts)
    in_table P segment thread stack =
        All-append P hs (ts ++ stack_header ∷ []) (All-weaker (IsGoodSegment base) P segment hs own.each) (in_rest P thread stack)

    rest_no_loads : All (λ h. is_load h ≡ false) (ts ++ stack_header ∷ [])
    rest_no_loads = in_rest (λ h. is_load h ≡ false) (λ h t. ne_eqb h.p_type 1 (λ e. omega (arith, e, t.type_))) refl

    pub loads_in_table : loads_in (table_of hs ts) ≡ hs
    loads_in_table =
        filter-append is_load hs (ts ++ stack_header ∷ [])
        ∙ (ap (λ (l : List ProgramHeader). filter is_load hs ++ l) (filter-none is_load (ts ++ stack_header ∷ []) rest_no_loads)
        ∙ (append-nil (filter is_load hs) ∙ filter-all is_load hs all_loads))

    blocks_in_table : filter is_thread_block (table_of hs ts) ≡ ts
    blocks_in_table =
        filter-append is_thread_block hs (ts ++ stack_header ∷ [])
        ∙ (ap (λ (l : List ProgramHeader). l ++ filter is_thread_block (ts ++ stack_header ∷ []))
        (filter-none is_thread_block hs (All-weaker (IsGoodSegment base) (λ h. is_thread_block h ≡ false) (no_block base) hs own.each))
        ∙ (filter-append is_thread_block ts (stack_header ∷ [])
        ∙ (append-nil (filter is_thread_block ts)
        ∙ filter-all is_thread_block ts
        (All-weaker (IsThreadHeader base) (λ h. is_thread_block h ≡ true) (λ h t. eq-eqb h.p_type 7 t.type_) ts blocks.each))))

    -- what stands behind the PT_LOADs begins with another header
    begins_otherwise :
        (us : List ProgramHeader) → All (λ h. is_load h ≡ false) (us ++ stack_header ∷ []) →
        (d : ProgramHeader) → is_load (get_or (us ++ stack_header ∷ []) 0 d) ≡ false
    begins_otherwise [] others d = refl
    begins_otherwise (u ∷ us) others d = All-head (λ h. is_load h ≡ false) u (us ++ stack_header ∷ []) others

    loads_in_front : prefix_len is_load (table_of hs ts) ≡ length hs
    loads_in_front =
        prefix_len_is is_load (table_of hs ts) (length hs) stack_header
        (omega (arith, length-append hs (ts ++ stack_header ∷ [])))
        (λ k below.
        ap is_load (get_or_append_left hs (ts ++ stack_header ∷ []) stack_header k below)
        ∙ All-get_or (λ (h : ProgramHeader). is_load h ≡ true) hs k stack_header below all_loads)
        (λ within.
        ap is_load (get_or-append_right hs (ts ++ stack_header ∷ []) (length hs) (length hs) stack_header refl (omega arith))
        ∙ (ap (λ (n : ℕ). is_load (get_or (ts ++ stack_header ∷ []) n stack_header)) (nothing_left (length hs))
        ∙ begins_otherwise ts rest_no_loads stack_header))
      where
        nothing_left : (n : ℕ) → n - n ≡ 0
        nothing_left n = omega arith

    -- at most one PT_TLS, then the stack's header
    tail_by : (us : List ProgramHeader) → All (IsThreadHeader base) us → length us ≤ 1 → IsTail (us ++ stack_header ∷ [])
    tail_by [] each few = refl
    tail_by (u ∷ []) each few = ((All-head (IsThreadHeader base) u [] each).type_, refl)
    tail_by (u ∷ (v ∷ us)) each few = absurd (omega (arith, few))

    table_in_order : IsInOrder (table_of hs ts)
    table_in_order =
        let e = loads_in_front in
        record {
          a_load = omega (arith, e, some_segment);
          tail =
              subst (λ (n : ℕ). IsTail (drop n (table_of hs ts))) (sym e)
              (subst IsTail (sym (drop_at hs (ts ++ stack_header ∷ []) (length hs) refl)) (tail_by ts blocks.each blocks.few));
          ascending =
              subst (λ (n : ℕ). AllPairs (λ (g h : ProgramHeader). g.p_vaddr < h.p_vaddr) (take n (table_of hs ts))) (sym e)
              (subst (AllPairs (λ (g h : ProgramHeader). g.p_vaddr < h.p_vaddr)) (sym (take_at hs (ts ++ stack_header ∷ []) (length hs) refl)) rising);
        }
      where
        rising : AllPairs (λ (g h : ProgramHeader). g.p_vaddr < h.p_vaddr) hs
        rising i j d low high =
            let r = own.rising i j d low high in
            let s = (own.each i d (omega (arith, low, high))).some in
            omega (arith, r, s)

    segments_good : (n : ℕ) → file_end hs ≤ n → size ≡ 64 + 56 * (length hs + (length ts + 1)) → AreGoodSegments n (table_of hs ts)
    segments_good n long sized =
        let l = loads_in_table in
        let first : first_address (loads_in (table_of hs ts)) ≡ base = ap first_address l ∙ first_is in
        let longer : length (table_of hs ts) ≡ length hs + (length ts + 1) =
        length-append hs (ts ++ stack_header ∷ []) ∙ ap (λ (k : ℕ). length hs + k) (length-append ts (stack_header ∷ [])) in
        let whole : 64 + 56 * length (table_of hs ts) ≡ size = omega (arith, sized, longer) in
        record {
          segments =
              subst (λ (f : ℕ). All (IsGoodLoad f n) (loads_in (table_of hs ts))) (sym first)
              (subst (All (IsGoodLoad base n)) (sym l) (loads_good n long));
          headers = subst (HoldsHeaders (64 + 56 * length (table_of hs ts))) (sym l) (subst (λ (m : ℕ). HoldsHeaders m hs) (sym whole) holds_headers);
          thread_blocks =
              subst (λ (f : ℕ). All (λ (h : ProgramHeader). h.p_type ≡ 7 → IsGoodThreadBlock f h) (table_of hs ts)) (sym first)
              (in_table (λ (h : ProgramHeader). h.p_type ≡ 7 → IsGoodThreadBlock base h)
              (λ h g e. absurd (omega (arith, e, g.type_))) (λ h t e. t.good) (λ e. absurd (omega (arith, e))));
          stacks =
              in_table (λ (h : ProgramHeader). h.p_type ≡ 0x6474e551 → IsGoodStack h)
              (λ h g e. absurd (omega (arith, e, g.type_))) (λ h t e. absurd (omega (arith, e, t.type_))) (λ e. good_stack);
        }

  no_page_shared : AllPairs ShareNoPage hs
  no_page_shared i j d low high k a b =
      let r = own.rising i j d low high in
      let p = (own.each j d high).page in
      omega (arith, a, b, r, p)

  sections_by :
      (fields : HeaderFields) (count n : ℕ) → HasNoSections (own_file_header fields 0) ⊎ HasSections n (own_file_header fields 0) →
      HasNoSections (own_file_header fields count) ⊎ HasSections n (own_file_header fields count)
  sections_by fields count n (inl none) = inl (record { offset = none.offset; count = none.count; names = none.names })
  sections_by fields count n (inr some) = inr (record { offset = some.offset; inside = some.inside; count = some.count; names = some.names })

  image_header : (fields : HeaderFields) (count n : ℕ) → SuitsFile fields n → 64 + 56 * count ≤ n → IsImageHeader n (own_file_header fields count)
  image_header fields count n suits inside = record {
    ident = refl;
    type_ = refl;
    machine = refl;
    version = refl;
    program_headers = refl;
    flags = refl;
    header_size = refl;
    program_header_size = refl;
    section_header_size = refl;
    sections = sections_by fields count n suits.sections;
    inside = inside;
  }

  -- what is read of the file
  module _ (image : List ℕ) (fields : HeaderFields) (count : ℕ) (byte : ℕ → ℕ) (file : IsOwnFile image fields count base size hs byte) where
    pub loads_are : loads image ≡ hs
    loads_are = ap loads_in file.table ∙ loads_in_table file.threads file.threads_are

    pub own_thread_blocks : thread_blocks image ≡ file.threads
    own_thread_blocks = ap (filter is_thread_block) file.table ∙ blocks_in_table file.threads file.threads_are

    pub own_headers_thing : headers_thing image ≡ record { at = base; size = size; align = 1; rights = 4; in_file = true }
    own_headers_thing =
        let at : first_address (loads image) ≡ base = ap first_address loads_are ∙ first_is in
        let long : headers_size image ≡ size = ap (λ (h : FileHeader). 64 + 56 * h.e_phnum) file.header ∙ sym file.size_is in
        λ i. record { at = at i; size = long i; align = 1; rights = 4; in_file = true }

    pub own_is_image : IsImage image
    own_is_image =
        let l = file.len in
        let s = file.size_is in
        let g = file.long in
        let c = file.counted in
        record {
          header = record {
            long = omega (arith, l, s, g);
            header = subst (IsImageHeader (length image)) (sym file.header) (image_header fields count (length image) file.suits (omega (arith, l, s, g)));
          };
          order = subst IsInOrder (sym file.table) (table_in_order file.threads file.threads_are);
          segments =
              subst (AreGoodSegments (length image)) (sym file.table)
              (segments_good file.threads file.threads_are (length image) (omega (arith, l)) (omega (arith, s, c)));
          pages = subst (AllPairs ShareNoPage) (sym loads_are) no_page_shared;
        }
