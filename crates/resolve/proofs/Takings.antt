-- What names mean as definitions are taken in one by one, by the rows of a table to which these are offered.
use Rattle.std.proofs.Common.{◌≡◌, ℕ, ◌≤◌, Bool, true, false, cond, ◌&&◌, ◌||◌, List, [], ◌∷◌, ◌++◌, length, get_or, refl, sym, ◌∙◌, ap, subst, arith, true≢false}
use Rattle.std.specs.Prelude.{All, None, Option, Some, count_by, is_some, set, unwrap_or}
use Rattle.std.specs.Option.{option_map_or, option_or}
use Rattle.std.specs.Str.{bytes_eq}
use Rattle.std.proofs.lemmas.List.{get_or-replicate, get_or-set_other, get_or-set_same, length-replicate, length-set}
use Rattle.std.proofs.lemmas.List.Elements.{All-head, All-tail}
use Rattle.std.proofs.lemmas.Option.{none-some, same_Some}
use Rattle.std.proofs.lemmas.Slice.Eq.{bytes_eq-Decides}
use Rattle.elf_model.specs.Link.ChosenSymbols.{definitions}
use Rattle.elf_model.specs.Link.Resolution.{SymbolOf}
use Rattle.elf_model.specs.declared.references.SymbolRef.{SymbolRef}
use Rattle.search.specs.Loads.{LoadedPlan}
use Rattle.search.specs.Names.{is_among, number_of}
use Rattle.search.specs.Numbers.{AreNamed}
use Rattle.search.proofs.Numbering.{number_below, number_once}
use Rattle.resolve.specs.Defined.{HasNoStrongTwins, is_strong_of}
use Rattle.resolve.specs.Offered.{candidate_of, chosen_ref, is_meant, is_referred, offers_of, rows_of}
use Rattle.resolve.specs.Owned.{AreOwners, is_owner}
use Rattle.symbols.specs.Owners.{after_kind, common_owner, is_second, is_strong_kind, is_strong_owner, owner_after, owner_in, owner_of, owner_ref, strong_owner, weak_owner}
use Rattle.resolve.specs.Taken.{TakenIn, nothing_taken, taken_after, taken_at, taken_with}
use Rattle.symbols.specs.declared.owner.Owner.{Owner}
use Rattle.symbols.specs.declared.owner.Owner.TheVariants as owner
use Rattle.resolve.proofs.NamedNumbers.{IsNumbered, all_numbered}
use Rattle.resolve.proofs.Offers.{twin_found, twin_missed}
use Rattle.symbols.specs.Offers.{all_offered}
use Rattle.symbols.specs.Rows.{Rows, no_row, no_rows, offered, taken, taken_as}
use Rattle.symbols.specs.declared.candidate.Candidate.{Candidate}
use Rattle.symbols.specs.declared.candidate.CandidateKind.{CandidateKind}
use Rattle.symbols.specs.declared.candidate.CandidateKind.TheVariants.{Common, Strong, Weak}
use Rattle.symbols.specs.declared.row.Row.{Row}

-- what a row's name means after one more candidate
owner_taken : (kind : CandidateKind) (c : Candidate) (row : Row) → owner_of (taken_as kind c row) ≡ after_kind kind (owner_of row) c.symbol
owner_taken Strong c row = by row.strong row.common row.weak
  where
    by : (s m w : Option SymbolRef) →
        strong_owner (option_or s (Some c.symbol)) (common_owner m (weak_owner w)) ≡ after_kind Strong (strong_owner s (common_owner m (weak_owner w))) c.symbol
    by None None None = refl
    by None None (Some w) = refl
    by None (Some m) w = refl
    by (Some s) m w = refl
owner_taken Common c row = by row.strong row.common row.weak
  where
    by : (s m w : Option SymbolRef) →
        strong_owner s (common_owner (option_or m (Some c.symbol)) (weak_owner w)) ≡ after_kind Common (strong_owner s (common_owner m (weak_owner w))) c.symbol
    by None None None = refl
    by None None (Some w) = refl
    by None (Some m) w = refl
    by (Some s) m w = refl
owner_taken Weak c row = by row.strong row.common row.weak
  where
    by : (s m w : Option SymbolRef) →
        strong_owner s (common_owner m (weak_owner (option_or w (Some c.symbol)))) ≡ after_kind Weak (strong_owner s (common_owner m (weak_owner w))) c.symbol
    by None None None = refl
    by None None (Some w) = refl
    by None (Some m) w = refl
    by (Some s) m w = refl

-- a row has a second strong definition after one more candidate, where it had one, or where that is a second one of its owner
twice_taken : (kind : CandidateKind) (c : Candidate) (row : Row) → (taken_as kind c row).twice ≡ (row.twice || (is_strong_kind kind && is_strong_owner (owner_of row)))
twice_taken Strong c row = ap (λ (b : Bool). row.twice || b) (by row.strong row.common row.weak)
  where
    by : (s m w : Option SymbolRef) → is_some s ≡ is_strong_owner (strong_owner s (common_owner m (weak_owner w)))
    by None None None = refl
    by None None (Some w) = refl
    by None (Some m) w = refl
    by (Some s) m w = refl
twice_taken Common c row = or_false row.twice
  where
    or_false : (b : Bool) → b ≡ (b || false)
    or_false true = refl
    or_false false = refl
twice_taken Weak c row = or_false row.twice
  where
    or_false : (b : Bool) → b ≡ (b || false)
    or_false true = refl
    or_false false = refl

-- what the owner of a name tells of its row
chosen_owner : (row : Row) → owner_ref (owner_of row) ≡ chosen_ref row
chosen_owner row = by row.strong row.common row.weak
  where
    by : (s m w : Option SymbolRef) → owner_ref (strong_owner s (common_owner m (weak_owner w))) ≡ option_or s (option_or m w)
    by None None None = refl
    by None None (Some w) = refl
    by None (Some m) w = refl
    by (Some s) m w = refl

abbrev twice_in : Rows → List ℕ → Bool
twice_in rows n = (unwrap_or (rows n) no_row).twice

-- What was taken in is what rows tell: the owners of names, and of which name a second strong definition came.
pub record IsTold (l : LoadedPlan) (rows : Rows) (t : TakenIn) : Type 0 where
  pub owners : AreOwners l.names rows t.owners
  pub none : t.twin ≡ None → (n : List ℕ) → twice_in rows n ≡ false
  pub found : (n : List ℕ) → t.twin ≡ Some n → twice_in rows n ≡ true

module _ (l : LoadedPlan) where
  -- before any definition
  nothing_told : IsTold l no_rows (nothing_taken l)
  nothing_told = record {
    owners = record {
      sized = length-replicate (length l.names) owner.Nobody;
      each = λ n among. get_or-replicate (length l.names) (number_of l.names n) owner.Nobody owner.Nobody (number_below l.names n among);
    };
    none = λ is n. refl;
    found = λ n is. absurd (none-some n is);
  }

  -- after one more, whose name has a number
  module _ (rows : Rows) (t : TakenIn) (s : SymbolOf) (told : IsTold l rows t) (among : is_among l.names s.name ≡ true) where
    abbrev i : ℕ
    i = number_of l.names s.name

    abbrev before : Owner
    before = get_or t.owners i owner.Nobody

    owned : before ≡ owner_in rows s.name
    owned = told.owners.each s.name among

    owners_more : AreOwners l.names (offered s.name (candidate_of s) rows) (taken_at t i s).owners
    owners_more = record {
      sized = length-set _ _ _ ∙ told.owners.sized;
      each = λ n there. by n there (bytes_eq s.name n) refl;
    }
      where
        now : Owner
        now = owner_after before (candidate_of s)

        by :
            (n : List ℕ) → is_among l.names n ≡ true → (b : Bool) → bytes_eq s.name n ≡ b →
            get_or (set t.owners i now) (number_of l.names n) owner.Nobody ≡ owner_of (unwrap_or (cond b (Some (taken (candidate_of s) (rows s.name))) (rows n)) no_row)
        by n there true e =
            let same : number_of l.names n ≡ i = ap (number_of l.names) (sym ((bytes_eq-Decides s.name n).0 e)) in
            ap (λ (k : ℕ). get_or (set t.owners i now) k owner.Nobody) same
            ∙ (get_or-set_same t.owners i now owner.Nobody (omega (arith, told.owners.sized, number_below l.names s.name among))
            ∙ (ap (λ (o : Owner). owner_after o (candidate_of s)) owned ∙ sym (owner_taken (candidate_of s).kind (candidate_of s) (unwrap_or (rows s.name) no_row))))
        by n there false e =
            get_or-set_other t.owners i (number_of l.names n) now owner.Nobody (λ same. true≢false (sym (number_once l.names s.name n among same) ∙ e))
            ∙ told.owners.each n there

    abbrev second : Bool
    second = is_second before (candidate_of s)

    -- of the symbol's own name, and of another one
    own_twice : (unwrap_or (Some (taken (candidate_of s) (rows s.name))) no_row).twice ≡ (twice_in rows s.name || second)
    own_twice =
        twice_taken (candidate_of s).kind (candidate_of s) (unwrap_or (rows s.name) no_row)
        ∙ ap (λ (o : Owner). twice_in rows s.name || (is_strong_kind (candidate_of s).kind && is_strong_owner o)) (sym owned)

    none_more : (taken_at t i s).twin ≡ None → (n : List ℕ) → twice_in (offered s.name (candidate_of s) rows) n ≡ false
    none_more nobody n = by t.twin second refl refl nobody
      where
        at : (b : Bool) → t.twin ≡ None → second ≡ false → (unwrap_or (cond b (Some (taken (candidate_of s) (rows s.name))) (rows n)) no_row).twice ≡ false
        at true before_ first = own_twice ∙ (ap (λ (c : Bool). c || second) (told.none before_ s.name) ∙ first)
        at false before_ first = told.none before_ n

        by : (q : Option (List ℕ)) (b : Bool) → t.twin ≡ q → second ≡ b → option_or q (cond b (Some s.name) None) ≡ None → twice_in (offered s.name (candidate_of s) rows) n ≡ false
        by (Some m) b is e nothing = absurd (none-some m (sym nothing))
        by None true is e nothing = absurd (none-some s.name (sym nothing))
        by None false is e nothing = at (bytes_eq s.name n) is e

    found_more : (n : List ℕ) → (taken_at t i s).twin ≡ Some n → twice_in (offered s.name (candidate_of s) rows) n ≡ true
    found_more n found = by t.twin second refl refl found
      where
        or_true : (b : Bool) → (b || true) ≡ true
        or_true true = refl
        or_true false = refl

        kept : (b : Bool) → bytes_eq s.name n ≡ b → twice_in rows n ≡ true → (unwrap_or (cond b (Some (taken (candidate_of s) (rows s.name))) (rows n)) no_row).twice ≡ true
        kept true e is = own_twice ∙ ap (λ (c : Bool). c || second) (ap (twice_in rows) ((bytes_eq-Decides s.name n).0 e) ∙ is)
        kept false e is = is

        own : s.name ≡ n → second ≡ true → twice_in (offered s.name (candidate_of s) rows) n ≡ true
        own same is =
            ap (λ (b : Bool). (unwrap_or (cond b (Some (taken (candidate_of s) (rows s.name))) (rows n)) no_row).twice) ((bytes_eq-Decides s.name n).1 same)
            ∙ (own_twice ∙ (ap (λ (c : Bool). twice_in rows s.name || c) is ∙ or_true (twice_in rows s.name)))

        by : (q : Option (List ℕ)) (b : Bool) → t.twin ≡ q → second ≡ b → option_or q (cond b (Some s.name) None) ≡ Some n → twice_in (offered s.name (candidate_of s) rows) n ≡ true
        by (Some m) b is e same = kept (bytes_eq s.name n) refl (told.found n (is ∙ same))
        by None true is e same = own (same_Some s.name n same) e
        by None false is e same = absurd (none-some n same)

    told_at : IsTold l (offered s.name (candidate_of s) rows) (taken_at t i s)
    told_at = record { owners = owners_more; none = none_more; found = found_more }

  module _ (named : AreNamed l) where
    told_more : (rows : Rows) (t : TakenIn) (s : SymbolOf) → IsTold l rows t → IsNumbered l s → IsTold l (offered s.name (candidate_of s) rows) (taken_with l t s)
    told_more rows t s told numbered =
        subst (λ (r : Option ℕ). IsTold l (offered s.name (candidate_of s) rows) (option_map_or (λ n. taken_at t n s) r t)) (sym numbered.number)
        (told_at rows t s told (numbered.among named))

    told_all : (ss : List SymbolOf) (rows : Rows) (t : TakenIn) → IsTold l rows t → All (IsNumbered l) ss → IsTold l (all_offered (offers_of ss) rows) (taken_after l t ss)
    told_all [] rows t told all = told
    told_all (s ∷ ss) rows t told all =
        told_all ss (offered s.name (candidate_of s) rows) (taken_with l t s)
        (told_more rows t s told (All-head (IsNumbered l) s ss all)) (All-tail (IsNumbered l) s ss all)

    -- after the definitions of all objects
    pub all_told : IsTold l (rows_of (definitions l.objects)) (taken_after l (nothing_taken l) (definitions l.objects))
    all_told = told_all (definitions l.objects) no_rows (nothing_taken l) nothing_told (all_numbered l)

-- a name of which two strong definitions came, and none
pub twin_told : (l : LoadedPlan) (ss : List SymbolOf) (t : TakenIn) (n : List ℕ) → IsTold l (rows_of ss) t → t.twin ≡ Some n → 2 ≤ count_by (is_strong_of n) ss
twin_told l ss t n told is = twin_found ss (rows_of ss) n (twice_in (rows_of ss) n) refl refl (told.found n is)

pub twins_none : (l : LoadedPlan) (ss : List SymbolOf) (t : TakenIn) → IsTold l (rows_of ss) t → t.twin ≡ None → HasNoStrongTwins ss
twins_none l ss t told is n = twin_missed ss (rows_of ss) n (twice_in (rows_of ss) n) refl refl (told.none is n)

-- a symbol whose name has a number is the owner of its name where it is what rows tell that the name means
pub owner_meant : (l : LoadedPlan) (rows : Rows) (owners : List Owner) (s : SymbolOf) → AreNamed l → AreOwners l.names rows owners → IsNumbered l s → is_owner l owners s ≡ is_meant rows s
owner_meant l rows owners s named are numbered =
    ap (λ (o : Owner). option_map_or (is_referred s) (owner_ref o) false)
    (ap (λ (r : Option ℕ). option_map_or (λ n. get_or owners n owner.Nobody) r owner.Nobody) numbered.number ∙ are.each s.name (numbered.among named))
    ∙ ap (λ (r : Option SymbolRef). option_map_or (is_referred s) r false) (chosen_owner (unwrap_or (rows s.name) no_row))

-- what was taken in of a list is that of its parts, and so are the rows of a table to which a list is offered
pub taken_more :
    (l : LoadedPlan) (now new all : TakenIn) (left front rest : List SymbolOf) →
    left ≡ front ++ rest → new ≡ taken_after l now front → taken_after l now left ≡ all → taken_after l new rest ≡ all
taken_more l now new all left front rest is added so_far =
    ap (λ (t : TakenIn). taken_after l t rest) added
    ∙ (sym (parts now front) ∙ (ap (taken_after l now) (sym is) ∙ so_far))
  where
    parts : (t : TakenIn) (ss : List SymbolOf) → taken_after l t (ss ++ rest) ≡ taken_after l (taken_after l t ss) rest
    parts t [] = refl
    parts t (s ∷ ss) = parts (taken_with l t s) ss

pub offered_more :
    (now new all : Rows) (left front rest : List SymbolOf) →
    left ≡ front ++ rest → new ≡ all_offered (offers_of front) now → all_offered (offers_of left) now ≡ all → all_offered (offers_of rest) new ≡ all
offered_more now new all left front rest is added so_far =
    ap (λ (rows : Rows). all_offered (offers_of rest) rows) added
    ∙ (sym (parts now front) ∙ (ap (λ (ss : List SymbolOf). all_offered (offers_of ss) now) (sym is) ∙ so_far))
  where
    parts : (rows : Rows) (ss : List SymbolOf) → all_offered (offers_of (ss ++ rest)) rows ≡ all_offered (offers_of rest) (all_offered (offers_of ss) rows)
    parts rows [] = refl
    parts rows (s ∷ ss) = parts (offered s.name (candidate_of s) rows) ss
