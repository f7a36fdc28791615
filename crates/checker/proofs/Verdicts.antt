-- A link whose words are a plan and whose text is a map has one verdict, and it is the least clause that fails.
use Rattle.std.proofs.Common.{◌≡◌, ℕ, ◌<◌, List, Ok, refl, subst, sym, ◌∙◌, ap, arith}
use Rattle.std.specs.Prelude.{◌↔◌}
use Rattle.elf_model.specs.Inputs.Command.{Plan, command_of}
use Rattle.elf_model.specs.Inputs.Files.{File}
use Rattle.elf_model.specs.Image.MapRecord.{MapRecord}
use Rattle.elf_model.specs.Image.MapText.{IsMap, text}
use Rattle.elf_model.specs.Image.RightLink.{FailsAt, IsRead, IsRightLink, IsUnread, Least, Subject, clause_number}
use Rattle.elf_model.specs.declared.verdict.Clause.{Clause}
use Rattle.elf_model.specs.declared.verdict.Clause.TheVariants.{C1, C2, C3, C4, C5, C6, C7, C8, C9, C10, C11, C12, C13, C14}
use Rattle.elf_model.specs.declared.verdict.Verdict.{Verdict}
use Rattle.elf_model.specs.declared.verdict.Verdict.TheVariants.{No, Yes}
use Rattle.checker.specs.Judged.{Judges}
use Rattle.checker.proofs.Clauses.{same_clause}

judges_unique : (v w : Verdict) (s : Subject) → Judges v s → Judges w s → v ≡ w
judges_unique Yes Yes s j k = refl
judges_unique Yes (No d) s j k = absurd (k.1 (j d))
judges_unique (No c) Yes s j k = absurd (j.1 (k c))
judges_unique (No c) (No d) s j k = ap No (same_clause c d (omega (arith, not_below, not_above)))
  where
    not_below : clause_number c < clause_number d → ⊥
    not_below low = j.1 (k.0 c low)

    not_above : clause_number d < clause_number c → ⊥
    not_above low = k.1 (j.0 d low)

-- the only plan and the only map
module _
    (files : List File) (words : List (List ℕ)) (image bytes : List ℕ) (p : Plan) (m : MapRecord)
    (plan_is : command_of words ≡ Ok p) (is_map : IsMap m) (spelled : bytes ≡ text m)
    (only : (n : MapRecord) → IsMap n → bytes ≡ text n → m ≡ n)
  where
    abbrev subject : Plan → MapRecord → Subject
    subject q n = record { plan = q; files = files; image = image; map = n }

    read : IsRead words bytes (subject p m)
    read = record { plan = plan_is; map = is_map; spelled = spelled }

    moved : (q : Plan) (n : MapRecord) (F : Subject → Type 0) → IsRead words bytes (subject q n) → F (subject q n) → F (subject p m)
    moved q n F r f =
        let one : q ≡ p = let e : Ok q ≡ Ok p = sym r.plan ∙ plan_is in cc in
        subst (λ (t : Plan). F (subject t m)) one (subst (λ (l : MapRecord). F (subject q l)) (sym (only n r.map r.spelled)) f)

    pub verdict_yes : (v : Verdict) → Judges v (subject p m) → (v ≡ Yes) ↔ IsRightLink files words image bytes
    verdict_yes v j = (
      λ e.
          let all = subst (λ (w : Verdict). Judges w (subject p m)) e j in
          record { plan = p; map = m; read = read; holds = all },
      λ right.
          judges_unique v Yes (subject p m) j
          (moved right.plan right.map (Judges Yes) right.read right.holds),
    )

    least : (v : Verdict) (c : Clause) → Judges v (subject p m) → (v ≡ No c) ↔ FailsAt c files words image bytes
    least v c j = (
      λ e.
          let fails = subst (λ (w : Verdict). Judges w (subject p m)) e j in
          record { plan = p; map = m; read = read; before = fails.0; fails = fails.1 },
      λ f.
          judges_unique v (No c) (subject p m) j
          (moved f.plan f.map (Judges (No c)) f.read (f.before, f.fails)),
    )

    pub verdict_no : (v : Verdict) → Judges v (subject p m) → (c : Clause) → (v ≡ No c) ↔ Least c files words image bytes
    verdict_no v j C1 = (
      λ e. absurd ((subst (λ (w : Verdict). Judges w (subject p m)) e j).1 tt),
      λ unread. absurd (unread (subject p m) read),
    )
    verdict_no v j C2 = least v C2 j
    verdict_no v j C3 = least v C3 j
    verdict_no v j C4 = least v C4 j
    verdict_no v j C5 = least v C5 j
    verdict_no v j C6 = least v C6 j
    verdict_no v j C7 = least v C7 j
    verdict_no v j C8 = least v C8 j
    verdict_no v j C9 = least v C9 j
    verdict_no v j C10 = least v C10 j
    verdict_no v j C11 = least v C11 j
    verdict_no v j C12 = least v C12 j
    verdict_no v j C13 = least v C13 j
    verdict_no v j C14 = least v C14 j

-- where there is no plan or no map
module _ (files : List File) (words : List (List ℕ)) (image bytes : List ℕ) (unread : IsUnread words bytes) where
  pub unread_yes : (No C1 ≡ Yes) ↔ IsRightLink files words image bytes
  unread_yes = (
    λ e. absurd (let f : No C1 ≡ Yes = e in cc),
    λ right. absurd (unread (record { plan = right.plan; files = files; image = image; map = right.map }) right.read),
  )

  fails_never : (c : Clause) → (C1 ≡ c → ⊥) → (No C1 ≡ No c) ↔ FailsAt c files words image bytes
  fails_never c other = (
    λ e. absurd (other (let f : No C1 ≡ No c = e in cc)),
    λ f. absurd (unread (record { plan = f.plan; files = files; image = image; map = f.map }) f.read),
  )

  pub unread_no : (c : Clause) → (No C1 ≡ No c) ↔ Least c files words image bytes
  unread_no C1 = (λ e. unread, λ u. refl)
  unread_no C2 = fails_never C2 (λ e. let f : C1 ≡ C2 = e in cc)
  unread_no C3 = fails_never C3 (λ e. let f : C1 ≡ C3 = e in cc)
  unread_no C4 = fails_never C4 (λ e. let f : C1 ≡ C4 = e in cc)
  unread_no C5 = fails_never C5 (λ e. let f : C1 ≡ C5 = e in cc)
  unread_no C6 = fails_never C6 (λ e. let f : C1 ≡ C6 = e in cc)
  unread_no C7 = fails_never C7 (λ e. let f : C1 ≡ C7 = e in cc)
  unread_no C8 = fails_never C8 (λ e. let f : C1 ≡ C8 = e in cc)
  unread_no C9 = fails_never C9 (λ e. let f : C1 ≡ C9 = e in cc)
  unread_no C10 = fails_never C10 (λ e. let f : C1 ≡ C10 = e in cc)
  unread_no C11 = fails_never C11 (λ e. let f : C1 ≡ C11 = e in cc)
  unread_no C12 = fails_never C12 (λ e. let f : C1 ≡ C12 = e in cc)
  unread_no C13 = fails_never C13 (λ e. let f : C1 ≡ C13 = e in cc)
  unread_no C14 = fails_never C14 (λ e. let f : C1 ≡ C14 = e in cc)
