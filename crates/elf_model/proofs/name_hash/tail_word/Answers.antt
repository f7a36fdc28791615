use Rattle.std.proofs.Common.{◌≡◌, ◌∙◌, ◌+◌, ◌-◌, ◌*◌, ◌%◌, ◌^◌, ◌<◌, ◌≤◌, ℕ, List, ◌∷◌, drop, length, ap, arith, inl, inr, refl, slice_index_or, sym}
use Rattle.std.proofs.lemmas.List.{drop_all, drop_more}
use Rattle.std.proofs.lemmas.Bool.{cases_lt}
use Rattle.elf_model.specs.NameHash.{tail_word}
use Rattle.elf_model.proofs.name_hash.tail_word.Goals as goal

-- a byte more in front
one_more : (bytes : List ℕ) (at word byte : ℕ) → 0 < at → at ≤ length bytes → byte ≡ slice_index_or bytes (at - 1) 0 → word ≡ tail_word (drop at bytes) → (word * 256 % 2 ^ 64 + byte) % 2 ^ 64 ≡ tail_word (drop (at - 1) bytes)
unfolding tail_word
one_more bytes at word byte some low is so =
    let next : at - 1 + 1 ≡ at = omega (arith, some) in
    let front : drop (at - 1) bytes ≡ byte ∷ drop at bytes =
    drop_more bytes (at - 1) 0 (omega (arith, some, low))
    ∙ ap (λ (n : ℕ). slice_index_or bytes (at - 1) 0 ∷ drop n bytes) next
    ∙ ap (λ (b : ℕ). b ∷ drop at bytes) (sym is) in
    rw (front, ← so) (omega arith)

pub loop-at-init : goal.loop-at-init
unfolding tail_word
loop-at-init c = (rw (drop_all (length c.args.bytes.now) c.args.bytes.now (omega arith)) refl, omega arith, omega arith, omega arith)

pub loop-at-preserved : goal.loop-at-preserved
loop-at-preserved c = (
  one_more c.args.bytes.now c.loop-at.at c.loop-at.word c.from.result (omega (arith, c.loop-at-test.true)) c.loop-at.invariant.1 c.from.ensures c.loop-at.invariant.0,
  omega (arith, c.loop-at.invariant.1),
  λ some. omega (arith, c.loop-at-test.true),
  λ none. absurd (omega (arith, none, c.loop-at-test.true, c.loop-at.invariant.1)),
)

-- at the end of the loop all bytes from the offset on are taken in
all_taken : (bytes : List ℕ) (at from : ℕ) → at ≤ from → at ≤ length bytes → (from ≤ length bytes → from ≤ at) → (length bytes ≤ from → length bytes ≤ at) → drop at bytes ≡ drop from bytes
all_taken bytes at from past low some none = elim (cases_lt from (length bytes)) [
  | inl short ↦ let same : at ≡ from = omega (arith, past, some (omega (arith, short))) in ap (λ (n : ℕ). drop n bytes) same
  | inr long ↦ drop_all at bytes (none long) ∙ sym (drop_all from bytes long)
]

pub returns : goal.returns
returns c =
    let i = c.loop-at.invariant in
    i.0 ∙ ap tail_word (all_taken c.args.bytes.now c.loop-at.at c.args.from c.loop-at-test.false i.1 i.2 i.3)
