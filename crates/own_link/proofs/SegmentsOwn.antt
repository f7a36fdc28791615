-- The segments of the own layout are good: they are pages apart, and hold the pieces that stand in them.
use Rattle.std.proofs.Common.{◌≡◌, ℕ, ◌+◌, ◌-◌, ◌/◌, ◌%◌, ◌^◌, ◌≤◌, ◌&&◌, inl, Bool, true, false, List, [], ◌∷◌, ◌++◌, refl, sym, ◌∙◌, arith}
use Rattle.std.specs.Prelude.{All, Contains, not}
use Rattle.std.proofs.Math.Nat.{mul-mod_left}
use Rattle.std.proofs.lemmas.Bool.{true≢false}
use Rattle.std.proofs.lemmas.List.Elements.{All-cons, All-nil, All-contains, All-map, All-weaker, Contains-append_left, Contains-append_right}
use Rattle.std.proofs.lemmas.List.Kept.{AllPairs-cons}
use Rattle.elf_model.specs.Inputs.Command.{IsBase}
use Rattle.elf_model.specs.Link.Loading.{LoadedObject}
use Rattle.elf_model.specs.Own.OwnLayout.{IsNotTooLarge, any_placed, code_pieces, code_start, data_pieces, data_start, greatest_end, is_code, is_read_only, laid_out, loaded_start, own_address, own_code, own_data, own_headers_size, own_laid_out, own_loaded, own_read_only, own_thread_rest, page_up, placed_end, placed_has_bytes, read_only_start}
use Rattle.elf_model.specs.Link.Pieces.{AreLawfulKinds, IsLawfulKind, is_executable, is_nobits, is_writable}
use Rattle.elf_model.specs.Link.Placement.{Placed}
use Rattle.own_link.proofs.Ends.{greatest_end-below, greatest_end-from}
use Rattle.elf_model.proofs.Listed.{All-from_contains, All-parts}
use Rattle.elf_model.proofs.OwnOrder.{laid_out_lawful}
use Rattle.elf_model.proofs.Pairs.{AllPairs-nil}
use Rattle.elf_model.proofs.Places.{AreOwnPlaced}
use Rattle.own_link.proofs.Segments.{AreGoodParts, IsGoodPart, Part, good_later, later_part, own_parts, part_end}

page_up-page : (x : ℕ) → page_up x % 4096 ≡ 0
page_up-page x = mul-mod_left ((x + (4096 - 1)) / 4096) 4096

-- a piece that may be executed has bytes
code_has_bytes : (q : Placed) → IsLawfulKind q.piece.header → is_executable q.piece.header ≡ true → placed_has_bytes q ≡ true
code_has_bytes q lawful x = by (is_nobits q.piece.header) refl
  where
    by : (b : Bool) → is_nobits q.piece.header ≡ b → not b ≡ true
    by false z = refl
    by true z =
        absurd (true≢false
        (let w = lawful.nobits z in
        let e : (is_writable q.piece.header && is_executable q.piece.header) ≡ true = rw (w, x) refl in sym e ∙ lawful.not_both))

-- where the pieces of each segment stand
abbrev StandsInFront : ℕ → List LoadedObject → Placed → Type 0
StandsInFront base objects q =
    (base + own_headers_size objects ≤ q.at) × (placed_end q ≤ code_start base objects) × (is_read_only q.piece ≡ true)

abbrev StandsInCode : ℕ → List LoadedObject → Placed → Type 0
StandsInCode base objects q =
    (code_start base objects ≤ q.at) × (placed_end q ≤ data_start base objects) × (is_code q.piece ≡ true)

abbrev StandsInData : ℕ → List LoadedObject → Placed → Type 0
StandsInData base objects q = (data_start base objects ≤ q.at) × (is_writable q.piece.header ≡ true)

-- the segments of the own layout are good
module _ (base : ℕ) (objects : List LoadedObject) (kinds : AreLawfulKinds objects) (based : IsBase base) (fits : IsNotTooLarge base objects) (stand : AreOwnPlaced base objects) where
  -- the kinds of the pieces that are placed
  placed_lawful : (q : Placed) → Contains (own_loaded base objects) q → IsLawfulKind q.piece.header
  placed_lawful q c =
      All-contains (λ (r : Placed). IsLawfulKind r.piece.header) (own_laid_out base objects) q
      (All-map (λ (r : Placed). IsLawfulKind r.piece.header) (λ p. record { at = own_address base objects p; piece = p }) (laid_out objects) (laid_out_lawful objects kinds))
      (stand.all q (Contains-append_left (own_loaded base objects) (own_thread_rest base objects) q c))

  loaded_ends : All (λ q. placed_end q ≤ 2 ^ 46) (own_loaded base objects)
  loaded_ends = (All-parts (λ q. placed_end q ≤ 2 ^ 46) (own_loaded base objects) (own_thread_rest base objects) fits.ends).0

  front_ends : All (λ q. placed_end q ≤ 2 ^ 46) (own_read_only base objects)
  front_ends = (All-parts (λ q. placed_end q ≤ 2 ^ 46) (own_read_only base objects) (own_code base objects ++ own_data base objects) loaded_ends).0

  later_ends : All (λ q. placed_end q ≤ 2 ^ 46) (own_code base objects ++ own_data base objects)
  later_ends = (All-parts (λ q. placed_end q ≤ 2 ^ 46) (own_read_only base objects) (own_code base objects ++ own_data base objects) loaded_ends).1

  front_good : IsGoodPart base (own_headers_size objects) (record { rights = 4; start = base; from = read_only_start base objects; there = true; placed = own_read_only base objects })
  front_good =
      let f = greatest_end-from any_placed (read_only_start base objects) (own_read_only base objects) in
      record {
        rights_low = omega arith;
        rights_high = omega arith;
        page = based.2;
        low = omega arith;
        begins = inl (refl, refl);
        pieces_from = All-weaker (StandsInFront base objects) (λ (q : Placed). read_only_start base objects ≤ q.at) (λ q h. h.0) (own_read_only base objects) stand.read_only;
        none = λ e. absurd (true≢false e);
        some = λ e. omega (arith, f);
        high = λ e. greatest_end-below any_placed (read_only_start base objects) (own_read_only base objects) (2 ^ 46) fits.headers front_ends;
        code = λ e. absurd (omega (arith, e));
      }

  code_good : IsGoodPart base (own_headers_size objects) (later_part 5 (code_start base objects) (code_start base objects) (code_pieces objects))
  code_good =
      good_later base (own_headers_size objects) 5 (code_start base objects) (code_start base objects) (code_pieces objects) (omega arith) (omega arith)
      (page_up-page _) stand.starts.0
      (All-weaker (StandsInCode base objects) (λ (q : Placed). code_start base objects ≤ q.at) (λ q h. h.0) (own_code base objects) stand.code)
      (All-parts (λ q. placed_end q ≤ 2 ^ 46) (own_code base objects) (own_data base objects) later_ends).0
      (λ e. All-from_contains (λ (q : Placed). placed_has_bytes q ≡ true) (own_code base objects)
      (λ q c. code_has_bytes q (placed_lawful q (Contains-append_right (own_read_only base objects) (own_code base objects ++ own_data base objects) q
      (Contains-append_left (own_code base objects) (own_data base objects) q c)))
      (All-contains (StandsInCode base objects) (own_code base objects) q stand.code c).2))

  data_good : IsGoodPart base (own_headers_size objects) (later_part 6 (data_start base objects) (loaded_start base objects) (data_pieces objects))
  data_good =
      good_later base (own_headers_size objects) 6 (data_start base objects) (loaded_start base objects) (data_pieces objects) (omega arith) (omega arith)
      (page_up-page _) (let s = stand.starts in omega (arith, s))
      (All-weaker (StandsInData base objects) (λ (q : Placed). data_start base objects ≤ q.at) (λ q h. h.0) (own_data base objects) stand.data_)
      (All-parts (λ q. placed_end q ≤ 2 ^ 46) (own_code base objects) (own_data base objects) later_ends).1
      (λ e. absurd (omega (arith, e)))

  -- each ends before the later ones begin
  front_below : (n : ℕ) → code_start base objects ≤ n → greatest_end any_placed (read_only_start base objects) (own_read_only base objects) ≤ n
  front_below n low =
      greatest_end-below any_placed (read_only_start base objects) (own_read_only base objects) n
      (let s = stand.starts.0 in omega (arith, s, low))
      (All-weaker (StandsInFront base objects) (λ (q : Placed). placed_end q ≤ n) (λ q h. omega (arith, h.1, low)) (own_read_only base objects) stand.read_only)

  code_below : greatest_end any_placed (code_start base objects) (own_code base objects) ≤ data_start base objects
  code_below =
      greatest_end-below any_placed (code_start base objects) (own_code base objects) (data_start base objects) stand.starts.1
      (All-weaker (StandsInCode base objects) (λ (q : Placed). placed_end q ≤ data_start base objects) (λ q h. h.1) (own_code base objects) stand.code)

  pub own_parts_good : AreGoodParts base (own_headers_size objects) (own_parts base objects)
  own_parts_good =
      let code = later_part 5 (code_start base objects) (code_start base objects) (code_pieces objects) in
      let last = later_part 6 (data_start base objects) (loaded_start base objects) (data_pieces objects) in
      let front : Part = record { rights = 4; start = base; from = read_only_start base objects; there = true; placed = own_read_only base objects } in
      let G : Part → Type 0 = IsGoodPart base (own_headers_size objects) in
      let R : Part → Part → Type 0 = λ p q. part_end p ≤ q.start in
      record {
        each =
            All-cons G front (code ∷ (last ∷ [])) front_good
            (All-cons G code (last ∷ []) code_good (All-cons G last [] data_good (All-nil G)));
        rising =
            AllPairs-cons R front (code ∷ (last ∷ []))
            (All-cons (R front) code (last ∷ []) (front_below (code_start base objects) (omega arith))
            (All-cons (R front) last [] (front_below (data_start base objects) stand.starts.1) (All-nil (R front))))
            (AllPairs-cons R code (last ∷ []) (All-cons (R code) last [] code_below (All-nil (R code)))
            (AllPairs-cons R last [] (All-nil (R last)) (AllPairs-nil R)));
        first = front;
        others = code ∷ (last ∷ []);
        parts_are = refl;
        first_there = refl;
        first_start = refl;
        first_from = refl;
      }
