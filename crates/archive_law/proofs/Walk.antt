-- The walk from header to header, and the spelling from text to text: each gives the other.
use Rattle.std.proofs.Common.{◌≡◌, ℕ, zero, suc, ◌+◌, ◌<◌, ◌≤◌, inl, inr, Bool, true, false, cond, List, [], ◌∷◌, ◌++◌, length, map, take, drop, refl, sym, ◌∙◌, ap, subst, arith}
use Rattle.std.specs.Prelude.{All, EachIndex, codes, filter, nat_lt, slice_index_or}
use Rattle.std.specs.List.{AllZip, concat}
use Rattle.std.proofs.lemmas.Bool.{cases_lt, le-ltb, lt-ltb}
use Rattle.std.proofs.lemmas.List.{drop_all, drop_at, length-append, length-drop, length-take, take-append-drop, take_at}
use Rattle.std.proofs.lemmas.List.Elements.{All-cons, All-head, All-nil, All-tail}
use Rattle.elf_model.specs.Inputs.ArchiveFile.{IsGoodHeader, IsWhole, StoredMember, header_offsets_from, is_readable, next_header, null_member, stored_member, stored_members}
use Rattle.archive_law.specs.ArchiveText.{HasGoodMembers, IsMemberText, SpellsMembers}
use Rattle.archive_law.proofs.Cut.{IsCutAt, IsReadAt, cut_at, read_at}

-- the members whose headers are at some offsets
abbrev stored_at : List ℕ → List ℕ → List StoredMember
stored_at bytes offsets = map (stored_member bytes) (filter (is_readable bytes) offsets)

-- the headers from one on: it is the first, and behind one that can be read the walk goes on
module _ (bytes : List ℕ) where
  offsets_by : (n at : ℕ) (inside : Bool) → nat_lt at (length bytes) ≡ inside
      → header_offsets_from (suc n) bytes at
      ≡ cond inside (at ∷ cond (is_readable bytes at) (header_offsets_from n bytes (next_header bytes at)) []) []
  offsets_by n at inside e =
      ap (λ (b : Bool). cond b (at ∷ cond (is_readable bytes at) (header_offsets_from n bytes (next_header bytes at)) []) []) e

  offsets_end : (n at : ℕ) → length bytes ≤ at → header_offsets_from n bytes at ≡ []
  offsets_end zero at past = refl
  offsets_end (suc n) at past = offsets_by n at false (le-ltb at (length bytes) past)

  offsets_begin : (n at : ℕ) → at < length bytes → is_readable bytes at ≡ true
      → header_offsets_from (suc n) bytes at ≡ at ∷ header_offsets_from n bytes (next_header bytes at)
  offsets_begin n at inside readable =
      offsets_by n at true (lt-ltb at (length bytes) inside)
      ∙ ap (λ (b : Bool). at ∷ cond b (header_offsets_from n bytes (next_header bytes at)) []) readable

  -- a header is the first of those from its offset on, also one that can't be read
  first_of_all : (P : ℕ → Type 0) (n at : ℕ) → at < length bytes → All P (header_offsets_from (suc n) bytes at) → P at
  first_of_all P n at inside all =
      All-head P at (cond (is_readable bytes at) (header_offsets_from n bytes (next_header bytes at)) [])
      (subst (All P) (offsets_by n at true (lt-ltb at (length bytes) inside)) all)

  stored_first : (at : ℕ) (offsets : List ℕ) → is_readable bytes at ≡ true → stored_at bytes (at ∷ offsets) ≡ stored_member bytes at ∷ stored_at bytes offsets
  stored_first at offsets readable =
      ap (λ (b : Bool). map (stored_member bytes) (cond b (at ∷ filter (is_readable bytes) offsets) (filter (is_readable bytes) offsets))) readable

-- members whose texts stand one behind the other from an offset on
abbrev StandFrom : ℕ → List StoredMember → List (List ℕ) → Type 0
StandFrom at members texts = EachIndex members (λ k. (slice_index_or members k null_member).offset ≡ at + length (concat (take k texts)))

stand_first : (at : ℕ) (m : StoredMember) (ms : List StoredMember) (t : List ℕ) (ts : List (List ℕ)) → StandFrom at (m ∷ ms) (t ∷ ts) → m.offset ≡ at
stand_first at m ms t ts stand = stand 0 (omega arith) ∙ omega arith

stand_rest : (at next : ℕ) (m : StoredMember) (ms : List StoredMember) (t : List ℕ) (ts : List (List ℕ)) → next ≡ at + length t → StandFrom at (m ∷ ms) (t ∷ ts) → StandFrom next ms ts
stand_rest at next m ms t ts ends stand k within =
    let here = stand (suc k) (omega (arith, within)) in
    here ∙ (let long = length-append t (concat (take k ts)) in omega (arith, long, ends))

stand_more : (at next : ℕ) (m : StoredMember) (ms : List StoredMember) (t : List ℕ) (ts : List (List ℕ)) → next ≡ at + length t → m.offset ≡ at → StandFrom next ms ts → StandFrom at (m ∷ ms) (t ∷ ts)
stand_more at next m ms t ts ends first rest zero within = first ∙ omega arith
stand_more at next m ms t ts ends first rest (suc k) within =
    rest k (omega (arith, within)) ∙ (let long = length-append t (concat (take k ts)) in omega (arith, long, ends))

-- what the walk finds from an offset on, with n headers at most: these members, and no fault
record IsWalk (bytes : List ℕ) (n at : ℕ) (members : List StoredMember) : Type 0 where
  found : stored_at bytes (header_offsets_from n bytes at) ≡ members
  whole : All (IsWhole bytes) (header_offsets_from n bytes at)
  good : All (IsGoodHeader bytes) (header_offsets_from n bytes at)

-- from spelling to walk
walk_none : (bytes : List ℕ) (n at : ℕ) → length bytes ≤ at → IsWalk bytes n at []
walk_none bytes n at past =
    let none = offsets_end bytes n at past in
    record {
      found = ap (stored_at bytes) none;
      whole = subst (All (IsWhole bytes)) (sym none) (All-nil (IsWhole bytes));
      good = subst (All (IsGoodHeader bytes)) (sym none) (All-nil (IsGoodHeader bytes));
    }

walk_more : (bytes : List ℕ) (n at : ℕ) (m : StoredMember) (ms : List StoredMember) (t rest : List ℕ)
    → IsReadAt bytes at m t rest → IsWalk bytes n (next_header bytes at) ms → IsWalk bytes (suc n) at (m ∷ ms)
walk_more bytes n at m ms t rest read walk =
    let offsets = header_offsets_from n bytes (next_header bytes at) in
    let first = offsets_begin bytes n at read.inside read.readable in
    record {
      found = ap (stored_at bytes) first ∙ stored_first bytes at offsets read.readable ∙ (λ i. read.stored i ∷ walk.found i);
      whole = subst (All (IsWhole bytes)) (sym first) (All-cons (IsWhole bytes) at offsets read.whole walk.whole);
      good = subst (All (IsGoodHeader bytes)) (sym first) (All-cons (IsGoodHeader bytes) at offsets read.good walk.good);
    }

walked : (bytes : List ℕ) (n at : ℕ) (members : List StoredMember) (texts : List (List ℕ)) → length bytes ≤ at + n
    → drop at bytes ≡ concat texts → AllZip IsMemberText members texts → StandFrom at members texts → IsWalk bytes n at members
walked bytes n at [] [] enough here each stand =
    walk_none bytes n at (let left = length-drop at bytes in let none : length (drop at bytes) ≡ 0 = ap (λ (xs : List ℕ). length xs) here in omega (arith, left, none))
walked bytes n at [] (t ∷ ts) enough here each stand = absurd each
walked bytes n at (m ∷ ms) [] enough here each stand = absurd each
walked bytes zero at (m ∷ ms) (t ∷ ts) enough here each stand =
    let read = read_at bytes at m t (concat ts) each.0 (stand_first at m ms t ts stand) here in
    absurd (let inside = read.inside in omega (arith, enough, inside))
walked bytes (suc n) at (m ∷ ms) (t ∷ ts) enough here each stand =
    let read = read_at bytes at m t (concat ts) each.0 (stand_first at m ms t ts stand) here in
    walk_more bytes n at m ms t (concat ts) read
    (walked bytes n (next_header bytes at) ms ts (let next = read.next in let some = read.some in omega (arith, enough, next, some))
    read.behind each.1 (stand_rest at (next_header bytes at) m ms t ts read.next stand))

-- from walk to spelling
record Spelling (bytes : List ℕ) (at : ℕ) (members : List StoredMember) : Type 0 where
  texts : List (List ℕ)
  here : drop at bytes ≡ concat texts
  each : AllZip IsMemberText members texts
  stand : StandFrom at members texts

spelling_none : (bytes : List ℕ) (n at : ℕ) → length bytes ≤ at → Spelling bytes at (stored_at bytes (header_offsets_from n bytes at))
spelling_none bytes n at past =
    subst (Spelling bytes at) (sym (ap (stored_at bytes) (offsets_end bytes n at past)))
    (record { texts = []; here = drop_all at bytes past; each = tt; stand = λ k within. absurd (omega (arith, within)) })

spelling_more : (bytes : List ℕ) (n at : ℕ) → at < length bytes → IsCutAt bytes at
    → Spelling bytes (next_header bytes at) (stored_at bytes (header_offsets_from n bytes (next_header bytes at)))
    → Spelling bytes at (stored_at bytes (header_offsets_from (suc n) bytes at))
spelling_more bytes n at inside it rest =
    let offsets = header_offsets_from n bytes (next_header bytes at) in
    subst (Spelling bytes at) (sym (ap (stored_at bytes) (offsets_begin bytes n at inside it.readable) ∙ stored_first bytes at offsets it.readable))
    (record {
      texts = it.member_text ∷ rest.texts;
      here = it.here ∙ ap (λ (xs : List ℕ). it.member_text ++ xs) rest.here;
      each = (it.is_text, rest.each);
      stand = stand_more at (next_header bytes at) (stored_member bytes at) (stored_at bytes offsets) it.member_text rest.texts it.next refl rest.stand;
    })

spelling_on : (bytes : List ℕ) (n at : ℕ) → at < length bytes
    → All (IsWhole bytes) (header_offsets_from (suc n) bytes at) → All (IsGoodHeader bytes) (header_offsets_from (suc n) bytes at)
    → (at < next_header bytes at → All (IsWhole bytes) (header_offsets_from n bytes (next_header bytes at))
    → All (IsGoodHeader bytes) (header_offsets_from n bytes (next_header bytes at))
    → Spelling bytes (next_header bytes at) (stored_at bytes (header_offsets_from n bytes (next_header bytes at))))
    → Spelling bytes at (stored_at bytes (header_offsets_from (suc n) bytes at))
spelling_on bytes n at inside whole good on =
    let it = cut_at bytes at (first_of_all bytes (IsWhole bytes) n at inside whole) (first_of_all bytes (IsGoodHeader bytes) n at inside good) in
    let first = offsets_begin bytes n at inside it.readable in
    let offsets = header_offsets_from n bytes (next_header bytes at) in
    spelling_more bytes n at inside it
    (on (omega arith)
    (All-tail (IsWhole bytes) at offsets (subst (All (IsWhole bytes)) first whole))
    (All-tail (IsGoodHeader bytes) at offsets (subst (All (IsGoodHeader bytes)) first good)))

spelling : (bytes : List ℕ) (n at : ℕ) → length bytes ≤ at + n
    → All (IsWhole bytes) (header_offsets_from n bytes at) → All (IsGoodHeader bytes) (header_offsets_from n bytes at)
    → Spelling bytes at (stored_at bytes (header_offsets_from n bytes at))
spelling bytes zero at enough whole good = spelling_none bytes zero at (omega (arith, enough))
spelling bytes (suc n) at enough whole good = elim (cases_lt at (length bytes)) [
  | inl inside ↦ spelling_on bytes n at inside whole good (λ onward. spelling bytes n (next_header bytes at) (omega (arith, enough, onward)))
  | inr past ↦ spelling_none bytes (suc n) at past
]

-- the whole file: the magic, and the walk and the spelling behind it
pub is_spelled : (bytes : List ℕ) → HasGoodMembers bytes → SpellsMembers bytes (stored_members bytes)
is_spelled bytes good =
    let long : 8 ≤ length bytes = (let e = length-take 8 bytes in let m : length (take 8 bytes) ≡ 8 = ap (λ (xs : List ℕ). length xs) good.magic in grind (arith, e, m)) in
    let s = spelling bytes (length bytes) 8 (omega arith) good.whole good.headers in
    record {
      texts = s.texts;
      spelled = sym (take-append-drop 8 bytes) ∙ (λ i. good.magic i ++ s.here i);
      each = s.each;
      offsets = λ k within. s.stand k within ∙ sym (length-append (codes "!<arch>\n") (concat (take k s.texts)));
    }

pub spelled_is : (bytes : List ℕ) (members : List StoredMember) → SpellsMembers bytes members → HasGoodMembers bytes × (stored_members bytes ≡ members)
spelled_is bytes members s =
    let front : take 8 bytes ≡ codes "!<arch>\n" = ap (take 8) s.spelled ∙ take_at (codes "!<arch>\n") (concat s.texts) 8 refl in
    let here : drop 8 bytes ≡ concat s.texts = ap (drop 8) s.spelled ∙ drop_at (codes "!<arch>\n") (concat s.texts) 8 refl in
    let walk = walked bytes (length bytes) 8 members s.texts (omega arith) here s.each
    (λ k within. s.offsets k within ∙ length-append (codes "!<arch>\n") (concat (take k s.texts))) in
    (record { magic = front; whole = walk.whole; headers = walk.good }, walk.found)
