-- The walk from header to header: what was read so far, with what is left, is what the file holds.
use Rattle.std.proofs.Common.{◌≡◌, ℕ, zero, suc, ◌+◌, ◌-◌, ◌<◌, ◌≤◌, Bool, true, false, cond, List, [], ◌∷◌, ◌++◌, length, map, refl, ap, ◌∙◌, sym, subst, arith}
use Rattle.std.specs.Prelude.{All, filter, nat_lt}
use Rattle.std.proofs.lemmas.Bool.{le-ltb, lt-ltb}
use Rattle.std.proofs.lemmas.List.{append_assoc, append-nil, length-append}
use Rattle.std.proofs.lemmas.List.Elements.{All-cons, All-head, All-nil, All-tail}
use Rattle.elf_model.specs.Inputs.ArchiveFile.{ArFaultStands, HasMagic, IsGoodHeader, IsWhole, StoredMember, header_offsets, header_offsets_from, is_readable, next_header, stored_member, stored_members}
use Rattle.elf_model.specs.declared.faults.ArFault.{ArFault}
use Rattle.elf_model.specs.declared.faults.ArFault.TheVariants as fault
use Rattle.elf_model.proofs.Rests.{Left}
use Rattle.ar_index.specs.Reading.{IsFaultAt, IsPassed, IsReadable}

-- the offsets from a header on
offsets_by : (n : ℕ) (bytes : List ℕ) (at : ℕ) (inside readable : Bool) → nat_lt at (length bytes) ≡ inside → is_readable bytes at ≡ readable
    → header_offsets_from (suc n) bytes at ≡ cond inside (at ∷ cond readable (header_offsets_from n bytes (next_header bytes at)) []) []
offsets_by n bytes at inside readable e f =
    (λ i. cond (e i) (at ∷ cond (f i) (header_offsets_from n bytes (next_header bytes at)) []) [])

-- a header that can be read is the first of those from it on
pub offsets_first : (n m : ℕ) (bytes : List ℕ) (at : ℕ) → n ≡ suc m → at < length bytes → is_readable bytes at ≡ true
    → header_offsets_from n bytes at ≡ at ∷ header_offsets_from m bytes (next_header bytes at)
offsets_first n m bytes at e inside readable =
    ap (λ (k : ℕ). header_offsets_from k bytes at) e ∙ offsets_by m bytes at true true (lt-ltb at (length bytes) inside) readable

-- one that can't be read is the first of those from it on too
offsets_begin : (n m : ℕ) (bytes : List ℕ) (at : ℕ) → n ≡ suc m → at < length bytes
    → header_offsets_from n bytes at ≡ at ∷ cond (is_readable bytes at) (header_offsets_from m bytes (next_header bytes at)) []
offsets_begin n m bytes at e inside =
    ap (λ (k : ℕ). header_offsets_from k bytes at) e ∙ offsets_by m bytes at true (is_readable bytes at) (lt-ltb at (length bytes) inside) refl

pub offsets_end : (n : ℕ) (bytes : List ℕ) (at : ℕ) → length bytes ≤ at → header_offsets_from n bytes at ≡ []
offsets_end zero bytes at past = refl
offsets_end (suc n) bytes at past = offsets_by n bytes at false (is_readable bytes at) (le-ltb at (length bytes) past) refl

-- members from some headers
abbrev stored_at : List ℕ → List ℕ → List StoredMember
stored_at bytes offsets = map (stored_member bytes) (filter (is_readable bytes) offsets)

-- after some members the next header is due at an offset
pub record Walked (bytes : List ℕ) (kept : List StoredMember) (at : ℕ) : Type 0 where
  pub begun : length kept ≤ at
  pub members : kept ++ stored_at bytes (header_offsets_from (length bytes - length kept) bytes at) ≡ stored_members bytes
  pub whole : Left (All (IsWhole bytes) (header_offsets bytes)) (All (IsWhole bytes) (header_offsets_from (length bytes - length kept) bytes at))
  pub headers : Left (All (IsGoodHeader bytes) (header_offsets bytes)) (All (IsGoodHeader bytes) (header_offsets_from (length bytes - length kept) bytes at))
  pub readable : Left (All (IsReadable bytes) (header_offsets bytes)) (All (IsReadable bytes) (header_offsets_from (length bytes - length kept) bytes at))

whole_left : (P : ℕ → Type 0) (bytes offsets : List ℕ) → offsets ≡ header_offsets bytes → Left (All P (header_offsets bytes)) (All P offsets)
whole_left P bytes offsets e = (subst (All P) (sym e), subst (All P) e)

pub walk_begins : (bytes : List ℕ) (kept : List StoredMember) → kept ≡ [] → Walked bytes kept 8
walk_begins bytes kept none =
    let empty : length kept ≡ 0 = ap (λ (ms : List StoredMember). length ms) none in
    let all : length bytes - length kept ≡ length bytes = omega (arith, empty) in
    let offsets : header_offsets_from (length bytes - length kept) bytes 8 ≡ header_offsets bytes = ap (λ (n : ℕ). header_offsets_from n bytes 8) all in
    record {
      begun = omega (arith, empty);
      members = (λ i. none i ++ stored_at bytes (offsets i));
      whole = whole_left (IsWhole bytes) bytes (header_offsets_from (length bytes - length kept) bytes 8) offsets;
      headers = whole_left (IsGoodHeader bytes) bytes (header_offsets_from (length bytes - length kept) bytes 8) offsets;
      readable = whole_left (IsReadable bytes) bytes (header_offsets_from (length bytes - length kept) bytes 8) offsets;
    }

-- a claim on all headers, when one more is passed
left_more : (P : ℕ → Type 0) (Q : Type 0) (at : ℕ) (offsets rest : List ℕ) → offsets ≡ at ∷ rest → P at → Left Q (All P offsets) → Left Q (All P rest)
left_more P Q at offsets rest e here left = (
  λ q. All-tail P at rest (subst (All P) e (left.0 q)),
  λ r. left.1 (subst (All P) (sym e) (All-cons P at rest here r)),
)

pub walk_goes_on : (bytes : List ℕ) (kept now : List StoredMember) (at next : ℕ) → Walked bytes kept at → at < length bytes → is_readable bytes at ≡ true
    → IsWhole bytes at → IsGoodHeader bytes at → next ≡ next_header bytes at → now ≡ kept ++ stored_member bytes at ∷ [] → Walked bytes now next
walk_goes_on bytes kept now at next walked inside readable whole good next_is now_is =
    let n = length bytes - length kept in
    let m = length bytes - length now in
    let count : length now ≡ length kept + 1 = ap (λ (ms : List StoredMember). length ms) now_is ∙ length-append kept (stored_member bytes at ∷ []) in
    let begun = walked.begun in
    let less : n ≡ suc m = omega (arith, count, begun, inside) in
    let first : header_offsets_from n bytes at ≡ at ∷ header_offsets_from m bytes next =
    offsets_first n m bytes at less inside readable ∙ ap (λ (k : ℕ). at ∷ header_offsets_from m bytes k) (sym next_is)
    in
    let rest = header_offsets_from m bytes next in
    record {
      begun = omega (arith, count, begun, next_is);
      members =
          ap (λ (ms : List StoredMember). ms ++ stored_at bytes rest) now_is
          ∙ append_assoc kept (stored_member bytes at ∷ []) (stored_at bytes rest)
          ∙ sym (ap (λ (os : List ℕ). kept ++ stored_at bytes os) first ∙ ap (λ b. kept ++ map (stored_member bytes) (cond b (at ∷ filter (is_readable bytes) rest) (filter (is_readable bytes) rest))) readable)
          ∙ walked.members;
      whole = left_more (IsWhole bytes) (All (IsWhole bytes) (header_offsets bytes)) at (header_offsets_from n bytes at) rest first whole walked.whole;
      headers = left_more (IsGoodHeader bytes) (All (IsGoodHeader bytes) (header_offsets bytes)) at (header_offsets_from n bytes at) rest first good walked.headers;
      readable = left_more (IsReadable bytes) (All (IsReadable bytes) (header_offsets bytes)) at (header_offsets_from n bytes at) rest first readable walked.readable;
    }

pub walk_ends : (bytes : List ℕ) (kept : List StoredMember) (at : ℕ) → Walked bytes kept at → length bytes ≤ at → IsPassed bytes kept
walk_ends bytes kept at walked past =
    let n = length bytes - length kept in
    let none = offsets_end n bytes at past in
    record {
      members = sym (ap (λ (os : List ℕ). kept ++ stored_at bytes os) none ∙ append-nil kept) ∙ walked.members;
      whole = walked.whole.1 (subst (All (IsWhole bytes)) (sym none) (All-nil (IsWhole bytes)));
      headers = walked.headers.1 (subst (All (IsGoodHeader bytes)) (sym none) (All-nil (IsGoodHeader bytes)));
      readable = walked.readable.1 (subst (All (IsReadable bytes)) (sym none) (All-nil (IsReadable bytes)));
    }

-- a fault of the member at the next header is one of the file
head_of : (P : ℕ → Type 0) (n : ℕ) (bytes : List ℕ) (at : ℕ) → 0 < n → at < length bytes → All P (header_offsets_from n bytes at) → P at
head_of P n bytes at some inside all =
    let m = n - 1 in
    let less : n ≡ suc m = omega (arith, some) in
    All-head P at (cond (is_readable bytes at) (header_offsets_from m bytes (next_header bytes at)) []) (subst (All P) (offsets_begin n m bytes at less inside) all)

pub walk_fails : (bytes : List ℕ) (kept : List StoredMember) (at : ℕ) (f : ArFault) → Walked bytes kept at → at < length bytes → HasMagic bytes
    → IsFaultAt bytes at f → ArFaultStands bytes f
walk_fails bytes kept at fault.Memory walked inside magic stands = tt
walk_fails bytes kept at fault.NotArchive walked inside magic stands = absurd stands
walk_fails bytes kept at fault.Truncated walked inside magic stands =
    let begun = walked.begun in
    (magic, λ all. stands (head_of (IsWhole bytes) (length bytes - length kept) bytes at (omega (arith, begun, inside)) inside (walked.whole.0 all)))
walk_fails bytes kept at fault.BadHeader walked inside magic stands =
    let begun = walked.begun in
    (magic, λ all. stands (head_of (IsGoodHeader bytes) (length bytes - length kept) bytes at (omega (arith, begun, inside)) inside (walked.headers.0 all)))
walk_fails bytes kept at fault.BadIndex walked inside magic stands = absurd stands
walk_fails bytes kept at fault.BadName walked inside magic stands = absurd stands
walk_fails bytes kept at fault.TooMany walked inside magic stands = absurd stands

-- in more than the magic the first header is behind it, and in no more there is none
pub first_header : (P : ℕ → Type 0) (bytes : List ℕ) → 8 < length bytes → All P (header_offsets bytes) → P 8
first_header P bytes inside all = head_of P (length bytes) bytes 8 (omega (arith, inside)) inside all

pub no_headers : (bytes : List ℕ) → length bytes ≤ 8 → stored_members bytes ≡ []
no_headers bytes few = ap (stored_at bytes) (offsets_end (length bytes) bytes 8 few)
