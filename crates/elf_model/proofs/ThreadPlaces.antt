-- Where the thread-local pieces of the own layout stand: those with bytes in a run from their beginning on, those without
-- in the run behind it.
use Rattle.std.proofs.Common.{◌≡◌, ℕ, ◌⊎◌, inl, inr, true, List, [], ◌∷◌, ◌++◌, refl, sym, ◌∙◌, ap, subst, arith}
use Rattle.std.specs.Prelude.{All, AllPairs, Contains}
use Rattle.std.proofs.lemmas.Bool.{false≢true}
use Rattle.std.proofs.lemmas.List.Elements.{All-contains, Contains-append_cases, Contains-append_left, Contains-append_right}
use Rattle.elf_model.specs.Link.Loading.{LoadedObject}
use Rattle.elf_model.specs.Own.OwnLayout.{code_pieces, end_of, first_start, initial_pieces, loaded_start, own_code, own_data, own_loaded, own_placed, own_read_only, own_thread_rest, placed_from, read_only_pieces, read_only_start, code_start, thread_rest_pieces, thread_rest_start, thread_start}
use Rattle.elf_model.specs.Link.Pieces.{AreLawfulKinds, Piece, is_thread_piece}
use Rattle.elf_model.specs.Link.Placement.{Placed}
use Rattle.elf_model.proofs.Listed.{All-from_contains, Contains-map}
use Rattle.elf_model.proofs.OwnOrder.{code_not_thread, plain_data, plain_not_thread, read_only_not_thread}
use Rattle.elf_model.proofs.Pairs.{AllPairs-append}
use Rattle.elf_model.proofs.Places.{initial_aligned, thread_rest_aligned}
use Rattle.elf_model.proofs.Running.{IsBehind, StandsWithin, placed_append, placed_ascending, placed_pieces, placed_within}

-- the piece of a place of a run is one of the run
pub run_piece : (x : ℕ) (ps : List Piece) (q : Placed) → Contains (placed_from x ps) q → Contains ps q.piece
run_piece x ps q c =
    subst (λ (rs : List Piece). Contains rs q.piece) (placed_pieces x ps) (Contains-map (λ (r : Placed). r.piece) (placed_from x ps) q c)

module _ (base : ℕ) (objects : List LoadedObject) where
  -- the thread-local pieces with bytes, and those of RW that aren't thread-local, where they stand
  abbrev pub own_initial : List Placed
  own_initial = placed_from (thread_start base objects) (initial_pieces objects)

  abbrev pub own_plain : List Placed
  own_plain = placed_from (end_of (loaded_start base objects) (initial_pieces objects)) (plain_data objects)

  initial_placed : (ps : List Piece) → placed_from (first_start base objects ps) ps ≡ placed_from (thread_start base objects) ps
  initial_placed [] = refl
  initial_placed (p ∷ ps) = refl

  pub own_data_parts : own_data base objects ≡ own_initial ++ own_plain
  own_data_parts =
      placed_append (loaded_start base objects) (initial_pieces objects) (plain_data objects)
      ∙ ap (λ (qs : List Placed). qs ++ own_plain) (initial_placed (initial_pieces objects))

  pub initial_loaded : (q : Placed) → Contains own_initial q → Contains (own_loaded base objects) q
  initial_loaded q c =
      Contains-append_right (own_read_only base objects) (own_code base objects ++ own_data base objects) q
      (Contains-append_right (own_code base objects) (own_data base objects) q
      (subst (λ (qs : List Placed). Contains qs q) (sym own_data_parts) (Contains-append_left own_initial own_plain q c)))

  -- all in a run from the block's beginning on
  abbrev pub own_threads : List Placed
  own_threads = own_initial ++ own_thread_rest base objects

  pub threads_run : placed_from (thread_start base objects) (initial_pieces objects ++ thread_rest_pieces objects) ≡ own_threads
  threads_run = placed_append (thread_start base objects) (initial_pieces objects) (thread_rest_pieces objects)

  pub initial_within : All (StandsWithin (thread_start base objects) (thread_rest_start base objects)) own_initial
  initial_within = placed_within (thread_start base objects) (initial_pieces objects) (initial_aligned objects)

  pub thread_rest_within : All (StandsWithin (thread_rest_start base objects) (end_of (thread_rest_start base objects) (thread_rest_pieces objects))) (own_thread_rest base objects)
  thread_rest_within = placed_within (thread_rest_start base objects) (thread_rest_pieces objects) (thread_rest_aligned objects)

  pub threads_ascending : AllPairs IsBehind own_threads
  threads_ascending =
      AllPairs-append IsBehind own_initial (own_thread_rest base objects)
      (placed_ascending (thread_start base objects) (initial_pieces objects) (initial_aligned objects))
      (placed_ascending (thread_rest_start base objects) (thread_rest_pieces objects) (thread_rest_aligned objects))
      (All-from_contains (λ p. All (IsBehind p) (own_thread_rest base objects)) own_initial (λ p c.
      let l = All-contains (StandsWithin (thread_start base objects) (thread_rest_start base objects)) own_initial p initial_within c in
      All-from_contains (IsBehind p) (own_thread_rest base objects) (λ q d.
      let g = All-contains (StandsWithin (thread_rest_start base objects) (end_of (thread_rest_start base objects) (thread_rest_pieces objects))) (own_thread_rest base objects) q thread_rest_within d in
      omega (arith, l, g))))

  -- no other place is thread-local
  module _ (kinds : AreLawfulKinds objects) where
    pub thread_in_initial : (q : Placed) → Contains (own_loaded base objects) q → is_thread_piece q.piece ≡ true → Contains own_initial q
    thread_in_initial q c t = by (Contains-append_cases (own_read_only base objects) (own_code base objects ++ own_data base objects) q c)
      where
        in_data : Contains own_initial q ⊎ Contains own_plain q → Contains own_initial q
        in_data (inl i) = i
        in_data (inr p) =
            absurd (false≢true (sym (plain_not_thread objects kinds q.piece
            (run_piece (end_of (loaded_start base objects) (initial_pieces objects)) (plain_data objects) q p)) ∙ t))

        in_rest : Contains (own_code base objects) q ⊎ Contains (own_data base objects) q → Contains own_initial q
        in_rest (inl code) = absurd (code_not_thread objects kinds q.piece (run_piece (code_start base objects) (code_pieces objects) q code) t)
        in_rest (inr d) = in_data (Contains-append_cases own_initial own_plain q (subst (λ (qs : List Placed). Contains qs q) own_data_parts d))

        by : Contains (own_read_only base objects) q ⊎ Contains (own_code base objects ++ own_data base objects) q → Contains own_initial q
        by (inl r) = absurd (read_only_not_thread objects kinds q.piece (run_piece (read_only_start base objects) (read_only_pieces objects) q r) t)
        by (inr rest) = in_rest (Contains-append_cases (own_code base objects) (own_data base objects) q rest)

    pub thread_in_threads : (q : Placed) → Contains (own_placed base objects) q → is_thread_piece q.piece ≡ true → Contains own_threads q
    thread_in_threads q c t = by (Contains-append_cases (own_loaded base objects) (own_thread_rest base objects) q c)
      where
        by : Contains (own_loaded base objects) q ⊎ Contains (own_thread_rest base objects) q → Contains own_threads q
        by (inl loaded) = Contains-append_left own_initial (own_thread_rest base objects) q (thread_in_initial q loaded t)
        by (inr rest) = Contains-append_right own_initial (own_thread_rest base objects) q rest
