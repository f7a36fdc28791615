-- Pieces that are compared with a third, and the comparison of the checker's output sections, which decides
-- whether pieces are of one output section.
use Rattle.std.proofs.Common.{◌≡◌, Bool, true, false, ◌&&◌, List, ℕ, refl, sym, ap, ◌∙◌}
use Rattle.std.specs.Cmp.Lexicographic.{slice_cmp}
use Rattle.std.specs.Ordering.{is_eq, bool_cmp, nat_cmp, ordering_then}
use Rattle.std.specs.declared.cmp.Ordering.{Ordering}
use Rattle.std.specs.declared.cmp.Ordering.TheVariants.{Less, Equal, Greater}
use Rattle.std.proofs.lemmas.Bool.{and_parts, false_from_ne_true, true≢false}
use Rattle.std.proofs.lemmas.Map.Text.{is_eq-slice_cmp}
use Rattle.std.proofs.lemmas.Slice.Eq.{bytes_eq-Decides}
use Rattle.std.specs.Str.{bytes_eq}
use Rattle.elf_model.specs.Link.Pieces.{Piece, is_executable, is_nobits, is_thread_local, is_writable, output_name, same_bool, same_output}
use Rattle.elf_model.proofs.SameOutput.{same_output-sym, same_output-trans}
use Rattle.check_link.specs.OutputSections.{IsOutputSection, IsSameSection, section_order}
use Rattle.check_link.specs.declared.output_sections.OutputSection.{OutputSection}

-- two pieces that are each of one output section with a third
pub same_by_third : (p q r : Piece) → same_output p r ≡ true → same_output q r ≡ true → same_output p q ≡ true
same_by_third p q r e f = same_output-trans p r q e (same_output-sym q r f)

-- a piece of the one output section and a piece of another
pub differ_by_third : (p q r : Piece) → same_output p r ≡ true → same_output q r ≡ false → same_output p q ≡ false
differ_by_third p q r e f =
    false_from_ne_true (same_output p q) (λ t. true≢false (sym (same_output-trans q p r (same_output-sym p q t) e) ∙ f))

-- comparisons that answer `Equal`, as tests
tie_bools : (a b : Bool) → is_eq (bool_cmp a b) ≡ same_bool a b
tie_bools true true = refl
tie_bools true false = refl
tie_bools false true = refl
tie_bools false false = refl

tie_five :
    (a b c d e : Ordering) →
    is_eq (ordering_then a (ordering_then b (ordering_then c (ordering_then d e))))
    ≡ (is_eq a && is_eq b && is_eq c && is_eq d && is_eq e)
tie_five Less b c d e = refl
tie_five Greater b c d e = refl
tie_five Equal Less c d e = refl
tie_five Equal Greater c d e = refl
tie_five Equal Equal Less d e = refl
tie_five Equal Equal Greater d e = refl
tie_five Equal Equal Equal Less e = refl
tie_five Equal Equal Equal Greater e = refl
tie_five Equal Equal Equal Equal e = refl

all_alike :
    (a b c d e v w x y z : Bool) → a ≡ v → b ≡ w → c ≡ x → d ≡ y → e ≡ z →
    (a && b && c && d && e) ≡ (v && w && x && y && z)
all_alike a b c d e v w x y z p q r s t = rw (p, q, r, s, t) refl

tie_flags : (a b v w : Bool) → a ≡ v → b ≡ w → is_eq (bool_cmp a b) ≡ same_bool v w
tie_flags a b v w p q = rw (p, q) (tie_bools v w)

tie_names : (a b v w : List ℕ) → a ≡ v → b ≡ w → is_eq (slice_cmp nat_cmp a b) ≡ bytes_eq v w
tie_names a b v w p q = rw (p, q) (is_eq-slice_cmp v w)

-- equal output sections are those of two pieces of one
pub sections_tie :
    (p q : Piece) (s t : OutputSection) → IsOutputSection p s → IsOutputSection q t →
    is_eq (section_order s t) ≡ same_output p q
unfolding same_output
sections_tie p q s t is_p is_q =
    tie_five (slice_cmp nat_cmp s.name.now t.name.now) (bool_cmp s.writable t.writable) (bool_cmp s.executable t.executable)
    (bool_cmp s.thread_local t.thread_local) (bool_cmp s.nobits t.nobits)
    ∙ all_alike (is_eq (slice_cmp nat_cmp s.name.now t.name.now)) (is_eq (bool_cmp s.writable t.writable))
    (is_eq (bool_cmp s.executable t.executable)) (is_eq (bool_cmp s.thread_local t.thread_local)) (is_eq (bool_cmp s.nobits t.nobits))
    (bytes_eq (output_name p.name) (output_name q.name)) (same_bool (is_writable p.header) (is_writable q.header))
    (same_bool (is_executable p.header) (is_executable q.header)) (same_bool (is_thread_local p.header) (is_thread_local q.header))
    (same_bool (is_nobits p.header) (is_nobits q.header))
    (tie_names s.name.now t.name.now (output_name p.name) (output_name q.name) is_p.name is_q.name)
    (tie_flags s.writable t.writable (is_writable p.header) (is_writable q.header) is_p.writable is_q.writable)
    (tie_flags s.executable t.executable (is_executable p.header) (is_executable q.header) is_p.executable is_q.executable)
    (tie_flags s.thread_local t.thread_local (is_thread_local p.header) (is_thread_local q.header) is_p.thread_local is_q.thread_local)
    (tie_flags s.nobits t.nobits (is_nobits p.header) (is_nobits q.header) is_p.nobits is_q.nobits)

-- Output sections that are one compare alike with a third, and as equal with one another.
ordered_alike :
    (a b : List ℕ) (c d e f g h i j : Bool) (t : OutputSection) → a ≡ b → c ≡ d → e ≡ f → g ≡ h → i ≡ j →
    ordering_then (slice_cmp nat_cmp a t.name.now)
    (ordering_then (bool_cmp c t.writable) (ordering_then (bool_cmp e t.executable) (ordering_then (bool_cmp g t.thread_local) (bool_cmp i t.nobits))))
    ≡ ordering_then (slice_cmp nat_cmp b t.name.now)
    (ordering_then (bool_cmp d t.writable) (ordering_then (bool_cmp f t.executable) (ordering_then (bool_cmp h t.thread_local) (bool_cmp j t.nobits))))
ordered_alike a b c d e f g h i j t p q r u v = rw (p, q, r, u, v) refl

pub one_orders : (s u t : OutputSection) → IsSameSection s u → section_order s t ≡ section_order u t
one_orders s u t same =
    ordered_alike s.name.now u.name.now s.writable u.writable s.executable u.executable s.thread_local u.thread_local s.nobits u.nobits t
    same.name same.writable same.executable same.thread_local same.nobits

same_self : (b : Bool) → same_bool b b ≡ true
same_self true = refl
same_self false = refl

equal_self : (s : OutputSection) → is_eq (section_order s s) ≡ true
equal_self s =
    tie_five (slice_cmp nat_cmp s.name.now s.name.now) (bool_cmp s.writable s.writable) (bool_cmp s.executable s.executable)
    (bool_cmp s.thread_local s.thread_local) (bool_cmp s.nobits s.nobits)
    ∙ all_alike (is_eq (slice_cmp nat_cmp s.name.now s.name.now)) (is_eq (bool_cmp s.writable s.writable))
    (is_eq (bool_cmp s.executable s.executable)) (is_eq (bool_cmp s.thread_local s.thread_local)) (is_eq (bool_cmp s.nobits s.nobits))
    true true true true true
    (is_eq-slice_cmp s.name.now s.name.now ∙ (bytes_eq-Decides s.name.now s.name.now).1 refl)
    (tie_bools s.writable s.writable ∙ same_self s.writable) (tie_bools s.executable s.executable ∙ same_self s.executable)
    (tie_bools s.thread_local s.thread_local ∙ same_self s.thread_local) (tie_bools s.nobits s.nobits ∙ same_self s.nobits)

pub one_equal : (s u : OutputSection) → IsSameSection s u → is_eq (section_order s u) ≡ true
one_equal s u same = ap is_eq (one_orders s u u same) ∙ equal_self u

-- output sections that compare as equal are one
five_parts : (a b c d e : Bool) → (a && b && c && d && e) ≡ true → (a ≡ true) × (b ≡ true) × (c ≡ true) × (d ≡ true) × (e ≡ true)
five_parts a b c d e h =
    let fifth = and_parts (a && b && c && d) e h in
    let fourth = and_parts (a && b && c) d fifth.0 in
    let third = and_parts (a && b) c fourth.0 in
    let both = and_parts a b third.0 in
    (both.0, both.1, third.1, fourth.1, fifth.1)

alike_same : (a b : Bool) → is_eq (bool_cmp a b) ≡ true → a ≡ b
alike_same true true h = refl
alike_same true false h = absurd (let f : false ≡ true = h in cc)
alike_same false true h = absurd (let f : false ≡ true = h in cc)
alike_same false false h = refl

pub equal_one : (s t : OutputSection) → is_eq (section_order s t) ≡ true → IsSameSection s t
equal_one s t h =
    let parts =
    five_parts (is_eq (slice_cmp nat_cmp s.name.now t.name.now)) (is_eq (bool_cmp s.writable t.writable)) (is_eq (bool_cmp s.executable t.executable))
    (is_eq (bool_cmp s.thread_local t.thread_local)) (is_eq (bool_cmp s.nobits t.nobits))
    (sym
    (tie_five (slice_cmp nat_cmp s.name.now t.name.now) (bool_cmp s.writable t.writable) (bool_cmp s.executable t.executable)
    (bool_cmp s.thread_local t.thread_local) (bool_cmp s.nobits t.nobits))
    ∙ h) in
    record {
      name = (bytes_eq-Decides s.name.now t.name.now).0 (sym (is_eq-slice_cmp s.name.now t.name.now) ∙ parts.0);
      writable = alike_same s.writable t.writable parts.1;
      executable = alike_same s.executable t.executable parts.2;
      thread_local = alike_same s.thread_local t.thread_local parts.3;
      nobits = alike_same s.nobits t.nobits parts.4;
    }
