-- The runs of a layout are those of the own one.
use Rattle.std.proofs.Common.{◌≡◌, ℕ, ◌≤◌, ◌^◌, List, [], ◌∷◌, ◌++◌, drop, length, refl, sym, ◌∙◌, ap, subst, arith}
use Rattle.std.specs.Borrow.{Bor}
use Rattle.std.proofs.lemmas.List.{append_assoc, drop-map, length-append, length-map}
use Rattle.std.proofs.lemmas.List.Elements.{All-append, All-cons, All-head, All-nil, All-tail}
use Rattle.elf_model.specs.Link.Loading.{LoadedObject}
use Rattle.elf_model.specs.Own.OwnLayout.{code_pieces, code_start, data_start, end_of, first_start, initial_pieces, loaded_start, own_code, own_data, own_loaded, own_placed, own_read_only, own_thread_rest, page_up, placed_from, read_only_pieces, read_only_start, segment, thread_rest_start, thread_start}
use Rattle.elf_model.specs.Link.Pieces.{Piece, is_thread_piece, kept_sections}
use Rattle.elf_model.specs.Link.Placement.{Placed, round_up}
use Rattle.elf_model.specs.Link.ThreadStorage.{alignment_of}
use Rattle.elf_model.proofs.ThreadPlaces.{own_data_parts, own_initial, own_plain}
use Rattle.layout.specs.Laid.{plain_start}
use Rattle.placing.specs.Limits.{AreInLimit, IsInLimit, RunFails}
use Rattle.layout.specs.Orders.{plain_pieces}
use Rattle.placing.specs.PlaceViews.{place_view, place_views}
use Rattle.placing.specs.Views.{borrowed_views}
use Rattle.placing.specs.declared.faults.LayoutFault.{LayoutFault}
use Rattle.placing.specs.declared.faults.LayoutFault.TheVariants as error
use Rattle.placing.specs.declared.piece.Piece as code
use Rattle.placing.specs.declared.runs.Place.{Place}

drop_front : {X : Type 0} (xs ys : List X) (n : ℕ) → n ≡ length xs → drop n (xs ++ ys) ≡ ys
drop_front [] ys n e = ap (λ (k : ℕ). drop k ys) e
drop_front {X} (x ∷ xs) ys n e = ap (λ (k : ℕ). drop k (x ∷ (xs ++ ys))) e ∙ drop_front xs ys (length xs) refl

-- behind the places that were there stand those of the run
pub run_behind : (old new : List Place) (n : ℕ) (run : List Placed) → n ≡ length old → place_views new ≡ place_views old ++ run → place_views (drop n new) ≡ run
run_behind old new n run count grown =
    let m = length-map old place_view in
    sym (drop-map place_view n new) ∙ (ap (drop n) grown ∙ drop_front (place_views old) run n (count ∙ sym m))

-- where the runs begin, from how each was placed
pub code_from : (base : ℕ) (objects : List LoadedObject) (he e cs : ℕ) (r : List Piece) → he ≡ read_only_start base objects → r ≡ read_only_pieces objects →
    e ≡ end_of he r → cs ≡ page_up e → cs ≡ code_start base objects
code_from base objects he e cs r start pieces end page =
    page ∙ ap page_up (end ∙ (ap (λ (x : ℕ). end_of x r) start ∙ ap (end_of (read_only_start base objects)) pieces))

pub data_from : (base : ℕ) (objects : List LoadedObject) (cs e ds : ℕ) (c : List Piece) → cs ≡ code_start base objects → c ≡ code_pieces objects →
    e ≡ end_of cs c → ds ≡ page_up e → ds ≡ data_start base objects
data_from base objects cs e ds c start pieces end page =
    page ∙ ap page_up (end ∙ (ap (λ (x : ℕ). end_of x c) start ∙ ap (end_of (code_start base objects)) pieces))

pub run_is : (x y : ℕ) (ps qs : List Piece) → x ≡ y → ps ≡ qs → placed_from x ps ≡ placed_from y qs
run_is x y ps qs e f = ap (λ (z : ℕ). placed_from z ps) e ∙ ap (placed_from y) f

-- the four of them are all places, and the first three those that memory has a place for
pub loaded_runs : (p0 p1 p2 p3 r c w : List Placed) → p0 ≡ [] → p1 ≡ p0 ++ r → p2 ≡ p1 ++ c → p3 ≡ p2 ++ w → p3 ≡ r ++ (c ++ w)
loaded_runs p0 p1 p2 p3 r c w e0 e1 e2 e3 =
    e3 ∙ (ap (λ (p : List Placed). p ++ w) (e2 ∙ ap (λ (p : List Placed). p ++ c) (e1 ∙ ap (λ (p : List Placed). p ++ r) e0)) ∙ append_assoc r c w)

pub all_in_limit :
    (r c w t x y z u : List Placed) → x ≡ r → y ≡ c → z ≡ w → u ≡ t → AreInLimit x → AreInLimit y → AreInLimit z → AreInLimit u → AreInLimit ((r ++ (c ++ w)) ++ t)
all_in_limit r c w t x y z u e f g h in_r in_c in_w in_t =
    All-append IsInLimit (r ++ (c ++ w)) t
    (All-append IsInLimit r (c ++ w) (subst AreInLimit e in_r) (All-append IsInLimit c w (subst AreInLimit f in_c) (subst AreInLimit g in_w)))
    (subst AreInLimit h in_t)

-- a fault of one run is one of all
front_limit : (xs ys : List Placed) → AreInLimit (xs ++ ys) → AreInLimit xs
front_limit [] ys all = All-nil IsInLimit
front_limit (x ∷ xs) ys all =
    All-cons IsInLimit x xs (All-head IsInLimit x (xs ++ ys) all) (front_limit xs ys (All-tail IsInLimit x (xs ++ ys) all))

behind_limit : (xs ys : List Placed) → AreInLimit (xs ++ ys) → AreInLimit ys
behind_limit [] ys all = all
behind_limit (x ∷ xs) ys all = behind_limit xs ys (All-tail IsInLimit x (xs ++ ys) all)

fails : (qs whole : List Placed) (e : LayoutFault) → (AreInLimit whole → AreInLimit qs) → RunFails qs e → RunFails whole e
fails qs whole error.Memory part f = f
fails qs whole error.TooLarge part f = λ all. f (part all)
fails qs whole _ part f = absurd f

-- the two runs of what may be written
two_runs : (p0 p1 p2 i d : List Placed) → p1 ≡ p0 ++ i → p2 ≡ p1 ++ d → p2 ≡ p0 ++ (i ++ d)
two_runs p0 p1 p2 i d e f = f ∙ (ap (λ (p : List Placed). p ++ d) e ∙ append_assoc p0 i d)

starts_plain : (base : ℕ) (objects : List LoadedObject) (ps : List Piece) →
    end_of (first_start base objects ps) ps ≡ plain_start ps (data_start base objects) (end_of (thread_start base objects) ps)
starts_plain base objects [] = refl
starts_plain base objects (p ∷ ps) = refl

pub initial_fails :
    (base : ℕ) (objects : List LoadedObject) (ts : ℕ) (initial : List Piece) (e : LayoutFault) → ts ≡ thread_start base objects → initial ≡ initial_pieces objects →
    RunFails (placed_from ts initial) e → RunFails (own_data base objects) e
initial_fails base objects ts initial e start are f =
    fails (own_initial base objects) (own_data base objects) e
    (λ all. front_limit (own_initial base objects) (own_plain base objects) (subst AreInLimit (own_data_parts base objects) all))
    (subst (λ (qs : List Placed). RunFails qs e) (run_is ts (thread_start base objects) initial (initial_pieces objects) start are) f)

-- the runs as they were placed, from where and of which pieces
pub record ArePlacedRuns (base : ℕ) (objects : List LoadedObject) (ts te from : ℕ) (initial plain : List Piece) : Type 0 where
  pub start : ts ≡ thread_start base objects
  pub initial_are : initial ≡ initial_pieces objects
  pub end : te ≡ end_of ts initial
  pub begin : from ≡ plain_start initial (data_start base objects) te
  pub plain_are : plain ≡ plain_pieces objects

pub placed_runs :
    (base : ℕ) (objects : List LoadedObject) (start align ts te from : ℕ) (is1 is2 ds initial plain : List (Bor code.Piece)) →
    start ≡ data_start base objects → align ≡ alignment_of is_thread_piece (kept_sections objects) → ts ≡ round_up align start →
    is1 ≡ initial → is2 ≡ initial → ds ≡ plain → borrowed_views initial ≡ initial_pieces objects → borrowed_views plain ≡ plain_pieces objects →
    te ≡ end_of ts (borrowed_views is1) → from ≡ plain_start (borrowed_views is2) start te → ArePlacedRuns base objects ts te from (borrowed_views is1) (borrowed_views ds)
placed_runs base objects start align ts te from is1 is2 ds initial plain begins aligned rounded e1 e2 e3 initial_are plain_are ends places = record {
  start = rounded ∙ (ap (λ (a : ℕ). round_up a start) aligned ∙ ap (round_up (alignment_of is_thread_piece (kept_sections objects))) begins);
  initial_are = ap borrowed_views e1 ∙ initial_are;
  end = ends;
  begin =
      places
      ∙ (ap (λ (ps : List (Bor code.Piece)). plain_start (borrowed_views ps) start te) (e2 ∙ sym e1) ∙ ap (λ (x : ℕ). plain_start (borrowed_views is1) x te) begins);
  plain_are = ap borrowed_views e3 ∙ plain_are;
}

pub plain_low : (ps : List Piece) (x y : ℕ) → x ≤ 2 ^ 47 → y ≤ 2 ^ 47 → plain_start ps x y ≤ 2 ^ 47
plain_low [] x y a b = a
plain_low (p ∷ ps) x y a b = b

module _ (base : ℕ) (objects : List LoadedObject) (ts te from : ℕ) (initial plain : List Piece) (runs : ArePlacedRuns base objects ts te from initial plain) where
  pub threads_end : te ≡ thread_rest_start base objects
  threads_end =
      runs.end ∙ (ap (λ (x : ℕ). end_of x initial) runs.start ∙ ap (end_of (thread_start base objects)) runs.initial_are)

  pub data_runs : own_data base objects ≡ placed_from ts initial ++ placed_from from plain
  data_runs =
      let first : placed_from ts initial ≡ own_initial base objects = run_is ts (thread_start base objects) initial (initial_pieces objects) runs.start runs.initial_are in
      let place : from ≡ end_of (loaded_start base objects) (initial_pieces objects) =
      runs.begin
      ∙ (ap (λ (ps : List Piece). plain_start ps (data_start base objects) te) runs.initial_are
      ∙ (ap (plain_start (initial_pieces objects) (data_start base objects)) threads_end ∙ sym (starts_plain base objects (initial_pieces objects)))) in
      let second : placed_from from plain ≡ own_plain base objects =
      run_is from (end_of (loaded_start base objects) (initial_pieces objects)) plain (plain_pieces objects) place runs.plain_are in
      own_data_parts base objects
      ∙ (ap (λ (qs : List Placed). qs ++ own_plain base objects) (sym first) ∙ ap (λ (qs : List Placed). placed_from ts initial ++ qs) (sym second))

  pub data_placed : (p0 p1 p2 : List Placed) → p1 ≡ p0 ++ placed_from ts initial → p2 ≡ p1 ++ placed_from from plain → p2 ≡ p0 ++ own_data base objects
  data_placed p0 p1 p2 e f =
      two_runs p0 p1 p2 (placed_from ts initial) (placed_from from plain) e f ∙ ap (λ (qs : List Placed). p0 ++ qs) (sym data_runs)

  pub data_limit : AreInLimit (placed_from ts initial) → AreInLimit (placed_from from plain) → AreInLimit (own_data base objects)
  data_limit i d = subst AreInLimit (sym data_runs) (All-append IsInLimit (placed_from ts initial) (placed_from from plain) i d)

  pub plain_fails : (e : LayoutFault) → RunFails (placed_from from plain) e → RunFails (own_data base objects) e
  plain_fails e f =
      fails (placed_from from plain) (own_data base objects) e
      (λ all. behind_limit (placed_from ts initial) (placed_from from plain) (subst AreInLimit data_runs all)) f

-- more places stand behind those that were there
pub no_fewer : (old new : List Place) (more : List Placed) → place_views new ≡ place_views old ++ more → length old ≤ length new
no_fewer old new more is =
    let o = length-map old place_view in
    let n = length-map new place_view in
    let s = ap (λ (qs : List Placed). length qs) is in
    let a = length-append (place_views old) more in
    omega (arith, o, n, s, a)

pub count_is : (places : List Place) (qs : List Placed) → place_views places ≡ qs → length places ≡ length qs
count_is places qs is = sym (length-map places place_view) ∙ ap (λ (rs : List Placed). length rs) is

pub segment_is :
    (base rights start last from to : ℕ) (xs ys : List Placed) → start ≡ last → from ≡ to → xs ≡ ys →
    segment base rights start from xs ≡ segment base rights last to ys
segment_is base rights start last from to xs ys e f g =
    ap (λ (s : ℕ). segment base rights s from xs) e
    ∙ (ap (λ (x : ℕ). segment base rights last x xs) f ∙ ap (segment base rights last to) g)

-- a fault of one of the four runs is one of all
run_fails : (part run whole : List Placed) (e : LayoutFault) → run ≡ part → (AreInLimit whole → AreInLimit part) → RunFails run e → RunFails whole e
run_fails part run whole e is limit f = fails part whole e limit (subst (λ (qs : List Placed). RunFails qs e) is f)

pub first_fails : (base : ℕ) (objects : List LoadedObject) (run : List Placed) (e : LayoutFault) → run ≡ own_read_only base objects → RunFails run e → RunFails (own_placed base objects) e
first_fails base objects run e is =
    run_fails (own_read_only base objects) run (own_placed base objects) e is
    (λ all. front_limit (own_read_only base objects) (own_code base objects ++ own_data base objects) (front_limit (own_loaded base objects) (own_thread_rest base objects) all))

pub code_fails : (base : ℕ) (objects : List LoadedObject) (run : List Placed) (e : LayoutFault) → run ≡ own_code base objects → RunFails run e → RunFails (own_placed base objects) e
code_fails base objects run e is =
    run_fails (own_code base objects) run (own_placed base objects) e is
    (λ all. front_limit (own_code base objects) (own_data base objects)
    (behind_limit (own_read_only base objects) (own_code base objects ++ own_data base objects) (front_limit (own_loaded base objects) (own_thread_rest base objects) all)))

pub data_fails : (base : ℕ) (objects : List LoadedObject) (e : LayoutFault) → RunFails (own_data base objects) e → RunFails (own_placed base objects) e
data_fails base objects e =
    run_fails (own_data base objects) (own_data base objects) (own_placed base objects) e refl
    (λ all. behind_limit (own_code base objects) (own_data base objects)
    (behind_limit (own_read_only base objects) (own_code base objects ++ own_data base objects) (front_limit (own_loaded base objects) (own_thread_rest base objects) all)))

pub rest_fails : (base : ℕ) (objects : List LoadedObject) (run : List Placed) (e : LayoutFault) → run ≡ own_thread_rest base objects → RunFails run e → RunFails (own_placed base objects) e
rest_fails base objects run e is =
    run_fails (own_thread_rest base objects) run (own_placed base objects) e is (behind_limit (own_loaded base objects) (own_thread_rest base objects))
