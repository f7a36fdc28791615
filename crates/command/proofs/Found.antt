-- The phrases that a command's words are, and what stands of them where it has a plan.
use Rattle.std.proofs.Common.{◌≡◌, ◌≢◌, ℕ, zero, suc, ◌≤◌, Bool, true, false, cond, not, ◌&&◌, nat_eq, List, [], ◌∷◌, ◌++◌, length, None, is_some, Result, Ok, Err, refl, ap, ◌∙◌, sym, append_assoc, append-nil, arith}
use Rattle.std.proofs.lemmas.Bool.{false≢true}
use Rattle.elf_model.specs.declared.faults.CmdFault.{CmdFault}
use Rattle.elf_model.specs.declared.faults.CmdFault.TheVariants.{GroupNesting, NoInput, MissingValue, NotArchiveInGroup}
use Rattle.elf_model.specs.Inputs.Command.{Plan, Phrase, Input, GroupStart, GroupEnd, and_then, split, is_open, is_archive, placed, read_behind, plan_of_phrases, whole_line, command_of, IsPhrases, MayFollow, AllFollow, IsCommand}
use Rattle.command.specs.Steps.{phrase_at}
use Rattle.command.proofs.Splitting.{read_on, split_is}
use Rattle.command.proofs.Spelled.{IsFirst, first_spelled}

bind_ok : {X Y : Type 0} (r : Result X CmdFault) (k : X → Result Y CmdFault) (y : Y) → and_then r k ≡ Ok y → (x : X) × (r ≡ Ok x) × (k x ≡ Ok y)
bind_ok (Ok x) k y e = (x, refl, e)
bind_ok (Err f) k y e = absurd cc

-- two answers that are one have one value
pub same_ok : {X : Type 0} (x y : X) → ◌≡◌ {A = Result X CmdFault} (Ok x) (Ok y) → y ≡ x
same_ok x y e = cc

open_ok : (b : Bool) (ps qs : List Phrase) → cond b (Err GroupNesting) (Ok ps) ≡ Ok qs → (qs ≡ ps) × (b ≡ false)
open_ok true ps qs e = absurd cc
open_ok false ps qs e = (same_ok ps qs e, refl)

close_ok : (b : Bool) (ps qs : List Phrase) → cond b (Ok ps) (Err GroupNesting) ≡ Ok qs → (qs ≡ ps) × (b ≡ true)
close_ok true ps qs e = (same_ok ps qs e, refl)
close_ok false ps qs e = absurd cc

archive_ok : (b a : Bool) (ps qs : List Phrase) → cond (b && not a) (Err NotArchiveInGroup) (Ok ps) ≡ Ok qs → (qs ≡ ps) × (b ≡ true → a ≡ true)
archive_ok true true ps qs e = (same_ok ps qs e, λ _. refl)
archive_ok true false ps qs e = absurd cc
archive_ok false a ps qs e = (same_ok ps qs e, λ t. absurd (false≢true t))

placed_ok : (front : List Phrase) (p : Phrase) (qs : List Phrase) → placed front p ≡ Ok qs → (qs ≡ front ++ p ∷ []) × MayFollow front p
placed_ok front GroupStart qs e = open_ok (is_open front) (front ++ GroupStart ∷ []) qs e
placed_ok front GroupEnd qs e = close_ok (is_open front) (front ++ GroupEnd ∷ []) qs e
placed_ok front (Input s) qs e = archive_ok (is_open front) (is_archive s) (front ++ Input s ∷ []) qs e
placed_ok front p qs e = (same_ok (front ++ p ∷ []) qs e, tt)

-- the phrases that are read behind others
pub record IsReading (front : List Phrase) (words : List (List ℕ)) (qs : List Phrase) : Type 0 where
  pub phrases : List Phrase
  pub whole : qs ≡ front ++ phrases
  pub spelled : IsPhrases words phrases
  pub grouped : AllFollow front phrases

whole_more : (front qs more : List Phrase) (p : Phrase) → qs ≡ (front ++ p ∷ []) ++ more → qs ≡ front ++ p ∷ more
whole_more front qs more p e = e ∙ append_assoc front (p ∷ []) more

reading : (n : ℕ) (front : List Phrase) (words : List (List ℕ)) (qs : List Phrase) → length words ≤ n → read_behind front (split words) ≡ Ok qs → IsReading front words qs
reading n front [] qs few e = record { phrases = []; whole = same_ok front qs e ∙ sym (append-nil front); spelled = refl; grouped = tt }
reading zero front (w ∷ ws) qs few e = absurd (omega arith)
reading (suc n) front (w ∷ ws) qs few e =
    let first = bind_ok (phrase_at w ws) (read_on front) qs (sym (split_is front w ws) ∙ e) in
    let p : Phrase = first.0.0 in
    let rest : List (List ℕ) = first.0.1 in
    let is : IsFirst (w ∷ ws) p rest = first_spelled w ws p rest first.1 in
    let here = bind_ok (placed front p) (λ ps. read_behind ps (split rest)) qs first.2 in
    let put = placed_ok front p here.0 here.1 in
    let more : IsReading (front ++ p ∷ []) rest qs = reading n (front ++ p ∷ []) rest qs (omega (arith, is.fewer)) (ap (λ ps. read_behind ps (split rest)) (sym put.0) ∙ here.2) in
    record {
      phrases = p ∷ more.phrases;
      whole = whole_more front qs more.phrases p more.whole;
      spelled = (is.front, rest, is.whole, is.spelled, more.spelled);
      grouped = (put.1, more.grouped);
    }

-- the facts of the whole line
pub record IsWhole (open_group : Bool) (t plan : Plan) : Type 0 where
  pub closed : open_group ≡ false
  pub same : plan ≡ t
  pub some : plan.items ≢ []
  pub mapped : plan.check ≡ true → plan.map ≢ None

line_ok : (b n m : Bool) (t plan : Plan) → (t.items ≡ [] → n ≡ true) → (t.check ≡ true → t.map ≡ None → m ≡ true) → cond b (Err GroupNesting) (cond n (Err NoInput) (cond m (Err MissingValue) (Ok t))) ≡ Ok plan → IsWhole b t plan
line_ok true n m t plan h k e = absurd cc
line_ok false true m t plan h k e = absurd cc
line_ok false false true t plan h k e = absurd cc
line_ok false false false t plan h k e =
    let same : plan ≡ t = same_ok t plan e in
    record {
      closed = refl;
      same = same;
      some = λ x. false≢true (h (ap (λ (p : Plan). p.items) (sym same) ∙ x));
      mapped = λ c x. false≢true (k (ap (λ (p : Plan). p.check) (sym same) ∙ c) (ap (λ (p : Plan). p.map) (sym same) ∙ x));
    }

whole_ok : (ps : List Phrase) (plan : Plan) → whole_line ps ≡ Ok plan → IsWhole (is_open ps) (plan_of_phrases ps) plan
whole_ok ps plan e =
    let t : Plan = plan_of_phrases ps in
    line_ok (is_open ps) (nat_eq (length t.items) 0) (t.check && not (is_some t.map)) t plan
    (λ x. ap (λ is. nat_eq (length is) 0) x)
    (λ c x. ap (λ b. b && not (is_some t.map)) c ∙ ap (λ o. not (is_some o)) x)
    e

pub found : (words : List (List ℕ)) (plan : Plan) → command_of words ≡ Ok plan → (phrases : List Phrase) × IsCommand words phrases plan
unfolding command_of
found words plan e =
    let read = bind_ok (read_behind [] (split words)) whole_line plan e in
    let r : IsReading [] words read.0 = reading (length words) [] words read.0 (omega arith) read.1 in
    let w = whole_ok read.0 plan read.2 in
    let same : read.0 ≡ r.phrases = r.whole in (
      r.phrases,
      record {
        spelled = r.spelled;
        grouped = r.grouped;
        closed = ap is_open (sym same) ∙ w.closed;
        plan_is = w.same ∙ ap plan_of_phrases same;
        some = w.some;
        mapped = w.mapped;
      },
    )
