-- Names: the reader of a name takes just what is spelled so, and may take plain bytes in one go.
use Rattle.std.proofs.Common.{◌≡◌, ℕ, zero, suc, ◌⊎◌, inl, inr, ◌+◌, ◌<◌, ◌≤◌, Bool, true, false, cond, eqb, List, [], ◌∷◌, ◌++◌, Option, Some, None, length, take, drop, refl, sym, ap, ◌∙◌, subst, one-add, arith, codes}
use Rattle.std.specs.Prelude.{option_map}
use Rattle.std.specs.List.{prefix_len}
use Rattle.std.proofs.lemmas.Bool.{eqb-true}
use Rattle.std.proofs.lemmas.Bool.Decides.{nat_tests}
use Rattle.std.proofs.lemmas.List.{append_assoc, append-nil, length-append, length-drop, nil_from_length}
use Rattle.std.proofs.lemmas.List.Elements.{All-nil, All-cons, All-head, All-tail}
use Rattle.std.proofs.lemmas.Option.{none-some, some_pair_parts}
use Rattle.elf_model.specs.Image.MapText.{pair, is_plain, spelled, escaped, name, AreBytes}
use Rattle.linkmap.specs.Reading.{tag, chained, unless_plain, pair_at, escape_at, with_front, name_behind, name_at}
use Rattle.linkmap.proofs.HexLaws.{pair-IsParser}
use Rattle.linkmap.proofs.Parsers.{IsParser, Took, chained_some, fork_some}
use Rattle.linkmap.proofs.Tags.{tag_takes}

pub record IsEscape (bytes : List ℕ) (c : ℕ) (rest : List ℕ) : Type 0 where
  pub front : bytes ≡ spelled c ++ rest
  pub small : c < 256
  pub other : is_plain c ≡ false

unless_from : (b c : ℕ) (rest left : List ℕ) (v : Bool) → is_plain b ≡ v → cond {A = Option (ℕ × List ℕ)} v None (Some (b, rest)) ≡ Some (c, left) → (b ≡ c) × (rest ≡ left) × (is_plain b ≡ false)
unless_from b c rest left true e h = absurd (none-some (c, left) h)
unless_from b c rest left false e h = let same = some_pair_parts b c rest left h in (same.0, same.1, e)

escape_spelled : (c : ℕ) (rest : List ℕ) → is_plain c ≡ false → spelled c ++ rest ≡ codes "\\x" ++ (pair c ++ rest)
unfolding spelled
escape_spelled c rest e = rw e refl

pub escape_takes : (bytes : List ℕ) (c : ℕ) (left : List ℕ) → escape_at bytes ≡ Some (c, left) → IsEscape bytes c left
unfolding escape_at
escape_takes bytes c left h = by (fork_some (tag (codes "\\x") bytes) (λ rest. chained (pair_at rest) unless_plain) None (c, left) h) where
  by : ((rest : List ℕ) × (tag (codes "\\x") bytes ≡ Some rest) × Took (chained (pair_at rest) unless_plain) c left) ⊎ Took None c left → IsEscape bytes c left
  by (inr never) = absurd (none-some (c, left) never)
  by (inl (rest, found, next)) =
      let d = chained_some (pair_at rest) unless_plain c left next in
      let u = unless_from d.value c d.rest left (is_plain d.value) refl d.second in
      let front = tag_takes (codes "\\x") bytes rest found in
      let digits = pair-IsParser.takes rest d.value d.rest d.first in
      let plain : is_plain c ≡ false = cc (u.0, u.2) in
      let whole : bytes ≡ codes "\\x" ++ (pair c ++ left) = cc (front, digits.0, u.0, u.1) in
      record {
        front = whole ∙ sym (escape_spelled c left plain);
        small = subst (λ (w : ℕ). w < 256) u.0 digits.1;
        other = plain;
      }

pub escape_again : (c : ℕ) (rest : List ℕ) → c < 256 → is_plain c ≡ false → escape_at (spelled c ++ rest) ≡ Some (c, rest)
unfolding escape_at tag
escape_again c rest small e = rw (escape_spelled c rest e, pair-IsParser.again c rest small, e) refl

-- what stands in front of a name
pub with_front_some : (front : List ℕ) (o : Option (List ℕ × List ℕ)) (x left : List ℕ) → with_front front o ≡ Some (x, left) → (y : List ℕ) × (o ≡ Some (y, left)) × (x ≡ front ++ y)
with_front_some front None x left h = absurd (none-some (x, left) h)
with_front_some front (Some p) x left h =
    let same = some_pair_parts (front ++ p.0) x p.1 left h in
    let found : ◌≡◌ {A = Option (List ℕ × List ℕ)} (Some (p.0, p.1)) (Some (p.0, left)) = ap (λ (w : List ℕ). Some (p.0, w)) same.1 in
    (p.0, found, sym same.0)

-- what passes over n bytes reads behind them
behind-drop : (n : ℕ) (bytes : List ℕ) → name_behind n bytes ≡ name_behind 0 (drop n bytes)
unfolding name_behind
behind-drop zero bytes = refl
behind-drop (suc n) [] = refl
behind-drop (suc n) (b ∷ bytes) = behind-drop n bytes

pub record IsName (bytes x rest : List ℕ) : Type 0 where
  pub front : bytes ≡ name x ++ rest
  pub small : AreBytes x

name_nil : (rest : List ℕ) → IsName (10 ∷ rest) [] rest
unfolding name
name_nil rest = record { front = refl; small = All-nil (λ b. b < 256) }

-- a byte in front of a name
name_cons : (c : ℕ) (bytes x rest : List ℕ) → c < 256 → IsName bytes x rest → IsName (spelled c ++ bytes) (c ∷ x) rest
unfolding name
name_cons c bytes x rest small h =
    let inner = append_assoc (spelled c) (escaped x) (10 ∷ []) in
    let outer = append_assoc (spelled c) (escaped x ++ 10 ∷ []) rest in
    let front = h.front in
    record { front = cc; small = All-cons (λ b. b < 256) c x small h.small }

plain_spelled : (b : ℕ) (rest : List ℕ) → is_plain b ≡ true → spelled b ++ rest ≡ b ∷ rest
unfolding spelled
plain_spelled b rest e = rw e refl

plain_small : (b : ℕ) → is_plain b ≡ true → b < 256
plain_small b e = grind (arith, nat_tests)

IsName-at : (c : ℕ) (bytes x y rest : List ℕ) (all : List ℕ) → c < 256 → all ≡ spelled c ++ bytes → x ≡ c ∷ y → IsName bytes y rest → IsName all x rest
IsName-at c bytes x y rest all small e f h =
    subst (λ (w : List ℕ). IsName w x rest) (sym e) (subst (λ (w : List ℕ). IsName (spelled c ++ bytes) w rest) (sym f) (name_cons c bytes y rest small h))

-- behind the backslash, `x` and two digits, the rest of an escape stands three bytes on
escape_behind : (b c : ℕ) (bytes rest : List ℕ) → IsEscape (b ∷ bytes) c rest → drop 3 bytes ≡ rest
unfolding spelled pair
escape_behind b c bytes rest h = ap (drop 4) (h.front ∙ escape_spelled c rest h.other)

mutual_step : (b : ℕ) (bytes x left : List ℕ) (p q : Bool) → is_plain b ≡ p → eqb b 10 ≡ q
    → ((x : List ℕ) → Took (name_behind 0 bytes) x left → IsName bytes x left)
    → ((x : List ℕ) → Took (name_behind 3 bytes) x left → IsName (drop 3 bytes) x left)
    → Took (cond p (with_front (b ∷ []) (name_behind 0 bytes)) (cond q (Some ([], bytes)) (chained (escape_at (b ∷ bytes)) (λ c rest. with_front (c ∷ []) (name_behind 3 bytes))))) x left
    → IsName (b ∷ bytes) x left
mutual_step b bytes x left true q e f near far h =
    let t = with_front_some (b ∷ []) (name_behind 0 bytes) x left h in
    IsName-at b bytes x t.0 left (b ∷ bytes) (plain_small b e) (sym (plain_spelled b bytes e)) t.2 (near t.0 t.1)
mutual_step b bytes x left false true e f near far h =
    let same = some_pair_parts [] x bytes left h in
    let byte = eqb-true b 10 f in
    subst (λ (w : List ℕ). IsName (b ∷ bytes) w left) same.0 (subst (λ (w : List ℕ). IsName (b ∷ bytes) [] w) same.1 (subst (λ (w : ℕ). IsName (w ∷ bytes) [] bytes) (sym byte) (name_nil bytes)))
mutual_step b bytes x left false false e f near far h =
    let d = chained_some (escape_at (b ∷ bytes)) (λ c rest. with_front (c ∷ []) (name_behind 3 bytes)) x left h in
    let t = with_front_some (d.value ∷ []) (name_behind 3 bytes) x left d.second in
    let escape = escape_takes (b ∷ bytes) d.value d.rest d.first in
    let behind = escape_behind b d.value bytes d.rest escape in
    IsName-at d.value (drop 3 bytes) x t.0 left (b ∷ bytes) escape.small (escape.front ∙ ap (λ w. spelled d.value ++ w) (sym behind)) t.2 (far t.0 t.1)

behind_takes : (n : ℕ) (bytes x left : List ℕ) → Took (name_behind n bytes) x left → IsName (drop n bytes) x left
unfolding name_behind
behind_takes zero [] x left h = absurd (none-some (x, left) h)
behind_takes (suc n) [] x left h = absurd (none-some (x, left) h)
behind_takes (suc n) (b ∷ bytes) x left h = behind_takes n bytes x left h
behind_takes zero (b ∷ bytes) x left h =
    mutual_step b bytes x left (is_plain b) (eqb b 10) refl refl (λ y e. behind_takes 0 bytes y left e) (λ y e. behind_takes 3 bytes y left e) h

-- one byte on
pub name_plain : (b : ℕ) (bytes : List ℕ) → is_plain b ≡ true → name_at (b ∷ bytes) ≡ with_front (b ∷ []) (name_at bytes)
unfolding name_behind
name_plain b bytes e = rw e refl

escaped_step : (c : ℕ) (rest : List ℕ) → Took (escape_at (codes "\\x" ++ (pair c ++ rest))) c rest → name_at (codes "\\x" ++ (pair c ++ rest)) ≡ with_front (c ∷ []) (name_at rest)
unfolding name_behind pair
escaped_step c rest h = rw h refl

pub name_escape : (bytes rest : List ℕ) (c : ℕ) → Took (escape_at bytes) c rest → name_at bytes ≡ with_front (c ∷ []) (name_at rest)
name_escape bytes rest c h =
    let i = escape_takes bytes c rest h in
    let e = i.front ∙ escape_spelled c rest i.other in
    ap name_at e ∙ escaped_step c rest (ap escape_at (sym e) ∙ h)

again_by : (c : ℕ) (x rest : List ℕ) (p : Bool) → is_plain c ≡ p → c < 256 → Took (name_at (name x ++ rest)) x rest → Took (name_at (spelled c ++ (name x ++ rest))) (c ∷ x) rest
again_by c x rest true e small h =
    ap name_at (plain_spelled c (name x ++ rest) e) ∙ name_plain c (name x ++ rest) e ∙ ap (with_front (c ∷ [])) h
again_by c x rest false e small h =
    name_escape (spelled c ++ (name x ++ rest)) (name x ++ rest) c (escape_again c (name x ++ rest) small e) ∙ ap (with_front (c ∷ [])) h

name_front : (c : ℕ) (x rest : List ℕ) → name (c ∷ x) ++ rest ≡ spelled c ++ (name x ++ rest)
unfolding name
name_front c x rest = simp append_assoc

pub name_again : (x rest : List ℕ) → AreBytes x → Took (name_at (name x ++ rest)) x rest
unfolding name name_behind
name_again [] rest small = refl
name_again (c ∷ x) rest small =
    let byte = All-head (λ b. b < 256) c x small in
    let others = All-tail (λ b. b < 256) c x small in
    ap name_at (name_front c x rest) ∙ again_by c x rest (is_plain c) refl byte (name_again x rest others)

pub name-IsParser : IsParser name AreBytes name_at
name-IsParser = record {
  takes = λ bytes x rest h. let i = behind_takes 0 bytes x rest h in (i.front, i.small);
  again = name_again;
}

-- the plain bytes in front, in one go
front_two : (xs ys : List ℕ) (o : Option (List ℕ × List ℕ)) → with_front xs (with_front ys o) ≡ with_front (xs ++ ys) o
front_two xs ys None = refl
front_two xs ys (Some p) = ap (λ (w : List ℕ). Some (w, p.1)) (sym (append_assoc xs ys p.0))

front_nil : (o : Option (List ℕ × List ℕ)) → with_front [] o ≡ o
front_nil None = refl
front_nil (Some p) = refl

run_by : (b : ℕ) (bytes : List ℕ) (n : ℕ) (p : Bool) → is_plain b ≡ p → name_at bytes ≡ with_front (take n bytes) (name_at (drop n bytes)) → name_at (b ∷ bytes) ≡ with_front (take (cond p (1 + n) 0) (b ∷ bytes)) (name_at (drop (cond p (1 + n) 0) (b ∷ bytes)))
run_by b bytes n true e h = rw one-add (name_plain b bytes e ∙ ap (with_front (b ∷ [])) h ∙ front_two (b ∷ []) (take n bytes) (name_at (drop n bytes)))
run_by b bytes n false e h = sym (front_nil (name_at (b ∷ bytes)))

pub name_run : (bytes : List ℕ) → name_at bytes ≡ with_front (take (prefix_len is_plain bytes) bytes) (name_at (drop (prefix_len is_plain bytes) bytes))
name_run [] = sym (front_nil (name_at []))
name_run (b ∷ bytes) = run_by b bytes (prefix_len is_plain bytes) (is_plain b) refl (name_run bytes)

spelled_by : (b : ℕ) (bytes : List ℕ) (n : ℕ) (p : Bool) → is_plain b ≡ p → escaped bytes ≡ take n bytes ++ escaped (drop n bytes) → escaped (b ∷ bytes) ≡ take (cond p (1 + n) 0) (b ∷ bytes) ++ escaped (drop (cond p (1 + n) 0) (b ∷ bytes))
spelled_by b bytes n true e h = rw one-add (plain_spelled b (escaped bytes) e ∙ ap (λ w. b ∷ w) h)
spelled_by b bytes n false e h = refl

pub escaped_run : (bytes : List ℕ) → escaped bytes ≡ take (prefix_len is_plain bytes) bytes ++ escaped (drop (prefix_len is_plain bytes) bytes)
escaped_run [] = refl
escaped_run (b ∷ bytes) = spelled_by b bytes (prefix_len is_plain bytes) (is_plain b) refl (escaped_run bytes)

-- and the byte behind them is not plain
pub behind_run : (bytes rest : List ℕ) (b : ℕ) → drop (prefix_len is_plain bytes) bytes ≡ b ∷ rest → is_plain b ≡ false
behind_run [] rest b h = cc
behind_run (c ∷ bytes) rest b h = by (is_plain c) refl h (behind_run bytes rest b) where
  by : (p : Bool) → is_plain c ≡ p → drop (cond p (1 + prefix_len is_plain bytes) 0) (c ∷ bytes) ≡ b ∷ rest → (drop (prefix_len is_plain bytes) bytes ≡ b ∷ rest → is_plain b ≡ false) → is_plain b ≡ false
  by true e at next = next (rw one-add at at)
  by false e at next = let same : c ≡ b = cc in ap is_plain (sym same) ∙ e

-- where neither a plain byte nor an escape stands, the name ends, or there is none
pub name_end : (bytes : List ℕ) → ((b : ℕ) (rest : List ℕ) → bytes ≡ b ∷ rest → is_plain b ≡ false) → escape_at bytes ≡ None → name_at bytes ≡ option_map {U = List ℕ × List ℕ} (λ rest. ([], rest)) (tag (codes "\n") bytes)
unfolding name_behind tag
name_end [] plain none = refl
name_end (b ∷ bytes) plain none = rw (plain b bytes refl, none) (by (eqb b 10)) where
  by : (q : Bool) → cond {A = Option (List ℕ × List ℕ)} q (Some ([], bytes)) None ≡ option_map {U = List ℕ × List ℕ} (λ rest. ([], rest)) (cond q (Some bytes) None)
  by true = refl
  by false = refl

-- one turn of the reader: a run, then an escape, the newline or neither
pub record IsRun (rest plain after : List ℕ) : Type 0 where
  pub front : plain ≡ take (prefix_len is_plain rest) rest
  pub back : after ≡ drop (prefix_len is_plain rest) rest

plain_at : (rest plain after : List ℕ) → IsRun rest plain after → name_at rest ≡ with_front plain (name_at after)
plain_at rest plain after r =
    let whole = name_run rest in
    let front = r.front in
    let back = r.back in
    cc

pub turn_escape : (done rest plain after left : List ℕ) (c : ℕ) → IsRun rest plain after → Took (escape_at after) c left → with_front ((done ++ plain) ++ c ∷ []) (name_at left) ≡ with_front done (name_at rest)
turn_escape done rest plain after left c r h =
    let inner = front_two plain (c ∷ []) (name_at left) in
    let outer = front_two done (plain ++ c ∷ []) (name_at left) in
    let joined = append_assoc done plain (c ∷ []) in
    let run = plain_at rest plain after r in
    let escape = name_escape after left c h in
    cc

newline_end : (left : List ℕ) → name_at (10 ∷ left) ≡ Some ([], left)
unfolding name_behind
newline_end left = refl

-- a name of which each byte stands for itself
pub plain_name : (rest plain after left : List ℕ) → IsRun rest plain after → tag (codes "\n") after ≡ Some left → name_at rest ≡ Some (plain, left)
plain_name rest plain after left r h =
    let run = plain_at rest plain after r in
    let end = ap name_at (tag_takes (codes "\n") after left h) ∙ newline_end left in
    rw (run, end, append-nil plain) refl

not_plain : (rest plain after : List ℕ) → IsRun rest plain after → (b : ℕ) (tail : List ℕ) → after ≡ b ∷ tail → is_plain b ≡ false
not_plain rest plain after r b tail e =
    behind_run rest tail b (sym r.back ∙ e)

pub turn_end : (done rest plain after left : List ℕ) → IsRun rest plain after → escape_at after ≡ None → tag (codes "\n") after ≡ Some left → with_front done (name_at rest) ≡ Some (done ++ plain, left)
turn_end done rest plain after left r none h =
    let run = plain_at rest plain after r in
    let end = name_end after (not_plain rest plain after r) none in
    rw (run, end, h, append-nil plain) refl

pub turn_none : (done rest plain after : List ℕ) → IsRun rest plain after → escape_at after ≡ None → tag (codes "\n") after ≡ None → with_front done (name_at rest) ≡ None
turn_none done rest plain after r none h =
    let run = plain_at rest plain after r in
    let end = name_end after (not_plain rest plain after r) none in
    rw (run, end, h) refl

pub turn_shorter : (rest plain after left : List ℕ) (c : ℕ) → IsRun rest plain after → Took (escape_at after) c left → length left < length rest
turn_shorter rest plain after left c r h =
    let i = escape_takes after c left h in
    let shorter : length left < length after = rw (i.front, escape_spelled c left i.other) (simp length-append (omega arith)) in
    let within : length after ≤ length rest = rw r.back (omega (arith, length-drop (prefix_len is_plain rest) rest)) in
    omega arith

-- and of the printer
escaped_at : (rest plain after : List ℕ) → IsRun rest plain after → escaped rest ≡ plain ++ escaped after
escaped_at rest plain after r =
    let whole = escaped_run rest in
    let front = r.front in
    let back = r.back in
    cc

pub printed_more : (out rest plain after tail : List ℕ) (b : ℕ) → IsRun rest plain after → after ≡ b ∷ tail → ((out ++ plain) ++ spelled b) ++ escaped tail ≡ out ++ escaped rest
printed_more out rest plain after tail b r e =
    rw (escaped_at rest plain after r, e) (simp append_assoc)

pub printed_end : (out rest plain after : List ℕ) → IsRun rest plain after → length after ≡ 0 → out ++ plain ≡ out ++ escaped rest
printed_end out rest plain after r e =
    rw (escaped_at rest plain after r, nil_from_length after e, append-nil plain) refl

pub printed_plain : (rest plain after tail : List ℕ) (b : ℕ) → IsRun rest plain after → after ≡ b ∷ tail → is_plain b ≡ false
printed_plain rest plain after tail b r e = not_plain rest plain after r b tail e
