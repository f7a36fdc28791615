-- Being of one output section is an equivalence of pieces, and its pieces are alike in their flags.
use Rattle.std.proofs.Common.{◌≡◌, Bool, true, false, ◌&&◌, refl, sym, ◌∙◌}
use Rattle.std.specs.Str.{bytes_eq}
use Rattle.std.proofs.lemmas.Bool.{and_from, and_parts, false≢true}
use Rattle.std.proofs.lemmas.Slice.Eq.{bytes_eq-Decides}
use Rattle.elf_model.specs.Own.OwnLayout.{is_code, is_data, is_initial, is_read_only, is_thread_rest, is_zero}
use Rattle.elf_model.specs.Link.Pieces.{Piece, is_executable, is_nobits, is_thread_local, is_writable, output_name, same_bool, same_output}

same_bool-true : (a b : Bool) → same_bool a b ≡ true → a ≡ b
same_bool-true true true e = refl
same_bool-true true false e = absurd (false≢true e)
same_bool-true false true e = absurd (false≢true e)
same_bool-true false false e = refl

same_bool-from : (a b : Bool) → a ≡ b → same_bool a b ≡ true
same_bool-from true b e = sym e
same_bool-from false b e = rw (← e) refl

-- what two pieces of one output section have in common
pub record AreAlike (p q : Piece) : Type 0 where
  pub name : output_name p.name ≡ output_name q.name
  pub writable : is_writable p.header ≡ is_writable q.header
  pub executable : is_executable p.header ≡ is_executable q.header
  pub thread_local : is_thread_local p.header ≡ is_thread_local q.header
  pub nobits : is_nobits p.header ≡ is_nobits q.header

pub alike : (p q : Piece) → same_output p q ≡ true → AreAlike p q
unfolding same_output
alike p q e =
    let n : Bool = bytes_eq (output_name p.name) (output_name q.name) in
    let w : Bool = same_bool (is_writable p.header) (is_writable q.header) in
    let x : Bool = same_bool (is_executable p.header) (is_executable q.header) in
    let t : Bool = same_bool (is_thread_local p.header) (is_thread_local q.header) in
    let z : Bool = same_bool (is_nobits p.header) (is_nobits q.header) in
    let e1 = and_parts (((n && w) && x) && t) z e in
    let e2 = and_parts ((n && w) && x) t e1.0 in
    let e3 = and_parts (n && w) x e2.0 in
    let e4 = and_parts n w e3.0 in
    record {
      name = (bytes_eq-Decides (output_name p.name) (output_name q.name)).0 e4.0;
      writable = same_bool-true (is_writable p.header) (is_writable q.header) e4.1;
      executable = same_bool-true (is_executable p.header) (is_executable q.header) e3.1;
      thread_local = same_bool-true (is_thread_local p.header) (is_thread_local q.header) e2.1;
      nobits = same_bool-true (is_nobits p.header) (is_nobits q.header) e1.1;
    }

pub same_from_alike : (p q : Piece) → AreAlike p q → same_output p q ≡ true
unfolding same_output
same_from_alike p q a =
    let n : Bool = bytes_eq (output_name p.name) (output_name q.name) in
    let w : Bool = same_bool (is_writable p.header) (is_writable q.header) in
    let x : Bool = same_bool (is_executable p.header) (is_executable q.header) in
    let t : Bool = same_bool (is_thread_local p.header) (is_thread_local q.header) in
    let z : Bool = same_bool (is_nobits p.header) (is_nobits q.header) in
    and_from (((n && w) && x) && t) z
    (and_from ((n && w) && x) t
    (and_from (n && w) x
    (and_from n w ((bytes_eq-Decides (output_name p.name) (output_name q.name)).1 a.name)
    (same_bool-from (is_writable p.header) (is_writable q.header) a.writable))
    (same_bool-from (is_executable p.header) (is_executable q.header) a.executable))
    (same_bool-from (is_thread_local p.header) (is_thread_local q.header) a.thread_local))
    (same_bool-from (is_nobits p.header) (is_nobits q.header) a.nobits)

pub same_output-refl : (p : Piece) → same_output p p ≡ true
same_output-refl p = same_from_alike p p (record { name = refl; writable = refl; executable = refl; thread_local = refl; nobits = refl })

pub same_output-sym : (p q : Piece) → same_output p q ≡ true → same_output q p ≡ true
same_output-sym p q e =
    let a = alike p q e in
    same_from_alike q p (record {
      name = sym a.name;
      writable = sym a.writable;
      executable = sym a.executable;
      thread_local = sym a.thread_local;
      nobits = sym a.nobits;
    })

pub same_output-trans : (p q r : Piece) → same_output p q ≡ true → same_output q r ≡ true → same_output p r ≡ true
same_output-trans p q r e f =
    let a = alike p q e in
    let b = alike q r f in
    same_from_alike p r (record {
      name = a.name ∙ b.name;
      writable = a.writable ∙ b.writable;
      executable = a.executable ∙ b.executable;
      thread_local = a.thread_local ∙ b.thread_local;
      nobits = a.nobits ∙ b.nobits;
    })

-- two bools that are true together are equal
pub both_ways_equal : (a b : Bool) → (a ≡ true → b ≡ true) → (b ≡ true → a ≡ true) → a ≡ b
both_ways_equal true b f g = sym (f refl)
both_ways_equal false true f g = g refl
both_ways_equal false false f g = refl

-- pieces of one output section have the same others in it
pub same_output-agree : (p q r : Piece) → same_output p q ≡ true → same_output p r ≡ same_output q r
same_output-agree p q r e =
    both_ways_equal (same_output p r) (same_output q r)
    (same_output-trans q p r (same_output-sym p q e))
    (same_output-trans p q r e)

-- a test that doesn't tell pieces of one output section apart
abbrev pub IsOfOutput : (Piece → Bool) → Type 0
IsOfOutput t = (p q : Piece) → same_output p q ≡ true → t p ≡ t q

pub is_read_only-of_output : IsOfOutput is_read_only
is_read_only-of_output p q e = let a = alike p q e in rw (a.writable, a.executable) refl

pub is_code-of_output : IsOfOutput is_code
is_code-of_output p q e = (alike p q e).executable

pub is_data-of_output : IsOfOutput is_data
is_data-of_output p q e = let a = alike p q e in rw (a.writable, a.thread_local, a.nobits) refl

pub is_zero-of_output : IsOfOutput is_zero
is_zero-of_output p q e = let a = alike p q e in rw (a.writable, a.thread_local, a.nobits) refl

pub is_initial-of_output : IsOfOutput is_initial
is_initial-of_output p q e = let a = alike p q e in rw (a.writable, a.thread_local, a.nobits) refl

pub is_thread_rest-of_output : IsOfOutput is_thread_rest
is_thread_rest-of_output p q e = let a = alike p q e in rw (a.writable, a.thread_local, a.nobits) refl
