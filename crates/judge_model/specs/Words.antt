-- The words of another linker's command (ld(1), and what compilers hand on), by one closed table: a word that has no row, or a
-- value that its row doesn't take, makes the command one that isn't judged. Those of the profile say what they say there.
use Rattle.std.specs.Prelude.{◌≡◌, ℕ, ◌+◌, ◌==◌, ◌||◌, Bool, true, false, cond, List, [], ◌∷◌, Option, None, Some, bit_or, codes, drop, fold, length, nat_eq, option_map, take, unwrap_or}
use Rattle.std.specs.List.{filter_map, last_or, list_any, position_or_len, starts_with}
use Rattle.std.specs.Option.{option_and_then, option_or}
use Rattle.std.specs.Str.{bytes_eq}
use Rattle.elf_model.specs.Inputs.Command.{AllFollow, Directory, Entry, GroupEnd, GroupStart, Input, Library, Output, Path, Phrase, Strip, Undefined, WholeEnd, WholeStart, address_of, after, is_empty, is_open, number_of, plan_of_phrases}
use Rattle.judge_model.specs.Plans.{ForeignPlan, Start}

-- what a word says, with its value: a phrase of the profile's; --gc-sections or its no; --eh-frame-hdr, a table of call frames, or
-- its no; that the first of two definitions counts; that code may be written, the stack executed; bits of the property note; where
-- the first segment begins; where an output section does; that names are missing; or nothing that is judged
pub data Says : Type 0 where
  Profile : Phrase → Says
  Collects : Bool → Says
  Tables : Bool → Says
  TakesFirst : Says
  WritesCode : Says
  ExecutesStack : Bool → Says
  Feature : ℕ → Says
  Segment : ℕ → Says
  Begins : Start → Says
  StripsLocal : Says
  Nothing : Says

-- a word that stands alone; one whose value is the next word; one whose value follows in the same word
pub data Form : Type 0 where
  Alone : Says → Form
  Next : (List ℕ → Option Says) → Form
  Joined : (List ℕ → Option Says) → Form

pub record Row : Type 0 where
  pub text : List ℕ
  pub form : Form

abbrev pub row : List ℕ → Form → Row
row text form = record { text = text; form = form }

-- values: a name, which isn't empty; an address in hexadecimal digits; any text
abbrev pub named : (List ℕ → Phrase) → List ℕ → Option Says
named says v = cond (is_empty v) None (Some (Profile (says v)))

abbrev pub hexadecimal : List ℕ → Option ℕ
hexadecimal v = option_or (address_of v) (number_of v)

abbrev pub at_address : (ℕ → Says) → List ℕ → Option Says
at_address says v = option_map says (hexadecimal v)

abbrev pub section_at : List ℕ → ℕ → Says
section_at name address = Begins (record { name = name; address = address })

abbrev pub any_text : List ℕ → Option Says
any_text v = Some Nothing

-- NAME=ADDRESS
abbrev pub equals_at : List ℕ → ℕ
equals_at v = position_or_len (λ b. b == 61) v

abbrev pub section_start : List ℕ → Option Says
section_start v = option_map (section_at (take (equals_at v) v)) (hexadecimal (drop (1 + equals_at v) v))

-- the keywords of -z; those that begin so have a value that isn't judged
abbrev pub keywords : List Row
keywords =
    row (codes "muldefs") (Alone TakesFirst)
    ∷ row (codes "execstack") (Alone (ExecutesStack true))
    ∷ row (codes "noexecstack") (Alone (ExecutesStack false))
    ∷ row (codes "ibt") (Alone (Feature 1))
    ∷ row (codes "shstk") (Alone (Feature 2))
    ∷ row (codes "lam-u48") (Alone (Feature 4))
    ∷ row (codes "lam-u57") (Alone (Feature 8))
    ∷ row (codes "relro") (Alone Nothing)
    ∷ row (codes "norelro") (Alone Nothing)
    ∷ row (codes "now") (Alone Nothing)
    ∷ row (codes "lazy") (Alone Nothing)
    ∷ row (codes "defs") (Alone Nothing)
    ∷ row (codes "text") (Alone Nothing)
    ∷ row (codes "separate-code") (Alone Nothing)
    ∷ row (codes "noseparate-code") (Alone Nothing)
    ∷ row (codes "nostart-stop-gc") (Alone Nothing)
    ∷ row (codes "max-page-size=") (Joined any_text)
    ∷ row (codes "common-page-size=") (Joined any_text)
    ∷ []

-- what a text says alone, by the first row that takes it
abbrev pub says_alone : List ℕ → Row → Option Says
says_alone w r = elim r.form as (λ _. Option Says) [
  | Alone says ↦ cond (bytes_eq w r.text) (Some says) None
  | Next value ↦ None
  | Joined value ↦ option_and_then value (after r.text w)
]

abbrev pub first_said : List Row → List ℕ → Option Says
first_said [] w = None
first_said (r ∷ rs) w = option_or (says_alone w r) (first_said rs w)

abbrev pub keyword : List ℕ → Option Says
keyword v = first_said keywords v

abbrev pub machine : List ℕ → Option Says
machine v = cond (bytes_eq v (codes "elf_x86_64")) (Some Nothing) None

abbrev pub library : List ℕ → Phrase
library v = Input (Library v)

-- the table
abbrev pub rows : List Row
rows =
    row (codes "-o") (Next (named Output))
    ∷ row (codes "--output=") (Joined (named Output))
    ∷ row (codes "-e") (Next (named Entry))
    ∷ row (codes "--entry=") (Joined (named Entry))
    ∷ row (codes "-u") (Next (named Undefined))
    ∷ row (codes "--undefined=") (Joined (named Undefined))
    ∷ row (codes "-L") (Next (named Directory))
    ∷ row (codes "-L") (Joined (named Directory))
    ∷ row (codes "--library-path=") (Joined (named Directory))
    ∷ row (codes "-l") (Next (named library))
    ∷ row (codes "-l") (Joined (named library))
    ∷ row (codes "--library=") (Joined (named library))
    ∷ row (codes "-m") (Next machine)
    ∷ row (codes "-z") (Next keyword)
    ∷ row (codes "-Map") (Next any_text)
    ∷ row (codes "-Map=") (Joined any_text)
    ∷ row (codes "--start-group") (Alone (Profile GroupStart))
    ∷ row (codes "-(") (Alone (Profile GroupStart))
    ∷ row (codes "--end-group") (Alone (Profile GroupEnd))
    ∷ row (codes "-)") (Alone (Profile GroupEnd))
    ∷ row (codes "--whole-archive") (Alone (Profile WholeStart))
    ∷ row (codes "--no-whole-archive") (Alone (Profile WholeEnd))
    ∷ row (codes "--gc-sections") (Alone (Collects true))
    ∷ row (codes "--no-gc-sections") (Alone (Collects false))
    ∷ row (codes "--allow-multiple-definition") (Alone TakesFirst)
    ∷ row (codes "-N") (Alone WritesCode)
    ∷ row (codes "--omagic") (Alone WritesCode)
    ∷ row (codes "-s") (Alone (Profile Strip))
    ∷ row (codes "--strip-all") (Alone (Profile Strip))
    ∷ row (codes "-x") (Alone StripsLocal)
    ∷ row (codes "--discard-all") (Alone StripsLocal)
    ∷ row (codes "-Ttext-segment=") (Joined (at_address Segment))
    ∷ row (codes "--image-base=") (Joined (at_address Segment))
    ∷ row (codes "-Ttext=") (Joined (at_address (section_at (codes ".text"))))
    ∷ row (codes "-Tdata=") (Joined (at_address (section_at (codes ".data"))))
    ∷ row (codes "-Tbss=") (Joined (at_address (section_at (codes ".bss"))))
    ∷ row (codes "--section-start=") (Joined section_start)
    ∷ row (codes "-static") (Alone Nothing)
    ∷ row (codes "-nostdlib") (Alone Nothing)
    ∷ row (codes "-S") (Alone Nothing)
    ∷ row (codes "--strip-debug") (Alone Nothing)
    ∷ row (codes "-X") (Alone Nothing)
    ∷ row (codes "--as-needed") (Alone Nothing)
    ∷ row (codes "--no-as-needed") (Alone Nothing)
    ∷ row (codes "--push-state") (Alone Nothing)
    ∷ row (codes "--pop-state") (Alone Nothing)
    ∷ row (codes "--eh-frame-hdr") (Alone (Tables true))
    ∷ row (codes "--no-eh-frame-hdr") (Alone (Tables false))
    ∷ row (codes "--no-relax") (Alone Nothing)
    ∷ row (codes "--relax") (Alone Nothing)
    ∷ row (codes "--emit-relocs") (Alone Nothing)
    ∷ row (codes "-q") (Alone Nothing)
    ∷ row (codes "--no-dependent-libraries") (Alone Nothing)
    ∷ row (codes "--icf=none") (Alone Nothing)
    ∷ row (codes "--build-id") (Alone Nothing)
    ∷ row (codes "--build-id=") (Joined any_text)
    ∷ row (codes "--hash-style=") (Joined any_text)
    ∷ row (codes "--threads=") (Joined any_text)
    ∷ row (codes "-O") (Joined any_text)
    ∷ row (codes "--sort-common") (Alone Nothing)
    ∷ row (codes "--sort-section=") (Joined any_text)
    ∷ row (codes "-plugin") (Next any_text)
    ∷ row (codes "-plugin-opt=") (Joined any_text)
    ∷ row (codes "-dynamic-linker") (Next any_text)
    ∷ row (codes "--no-dynamic-linker") (Alone Nothing)
    ∷ row (codes "--no-pie") (Alone Nothing)
    ∷ row (codes "-no-pie") (Alone Nothing)
    ∷ row (codes "-Bstatic") (Alone Nothing)
    ∷ row (codes "--no-undefined") (Alone Nothing)
    ∷ row (codes "--no-warn-rwx-segments") (Alone Nothing)
    ∷ row (codes "--no-warn-execstack") (Alone Nothing)
    ∷ row (codes "--no-warn-mismatch") (Alone Nothing)
    ∷ row (codes "--fatal-warnings") (Alone Nothing)
    ∷ row (codes "--no-fatal-warnings") (Alone Nothing)
    ∷ row (codes "--warn-common") (Alone Nothing)
    ∷ row (codes "--print-gc-sections") (Alone Nothing)
    ∷ row (codes "--no-demangle") (Alone Nothing)
    ∷ row (codes "--demangle") (Alone Nothing)
    ∷ row (codes "--enable-new-dtags") (Alone Nothing)
    ∷ row (codes "--disable-new-dtags") (Alone Nothing)
    ∷ row (codes "--no-ld-generated-unwind-info") (Alone Nothing)
    ∷ row (codes "-t") (Alone Nothing)
    ∷ row (codes "--trace") (Alone Nothing)
    ∷ row (codes "--cref") (Alone Nothing)
    ∷ row (codes "--color-diagnostics") (Alone Nothing)
    ∷ []

-- the words in order: a word whose value is the next one, with it; else a word alone, which is a file's path where it doesn't
-- begin with -
abbrev pub takes_next : List ℕ → Row → Option (List ℕ → Option Says)
takes_next w r = elim r.form as (λ _. Option (List ℕ → Option Says)) [
  | Alone says ↦ None
  | Next value ↦ cond (bytes_eq w r.text) (Some value) None
  | Joined value ↦ None
]

abbrev pub next_value : List Row → List ℕ → Option (List ℕ → Option Says)
next_value [] w = None
next_value (r ∷ rs) w = option_or (takes_next w r) (next_value rs w)

abbrev pub is_option : List ℕ → Bool
is_option w = is_empty w || starts_with nat_eq w (codes "-")

abbrev pub says_word : List ℕ → Option Says
says_word w = option_or (first_said rows w) (cond (is_option w) None (Some (Profile (Input (Path w)))))

abbrev pub in_front : Option Says → Option (List Says) → Option (List Says)
in_front None rest = None
in_front (Some s) rest = option_map (λ ss. s ∷ ss) rest

abbrev pub with_next : Option (List ℕ → Option Says) → List ℕ → List ℕ → Option (List Says) → Option (List Says) → Option (List Says)
with_next None w v alone both = in_front (says_word w) alone
with_next (Some value) w v alone both = in_front (value v) both

abbrev pub said : List (List ℕ) → Option (List Says)
said [] = Some []
said (w ∷ []) = in_front (says_word w) (Some [])
said (w ∷ v ∷ ws) = with_next (next_value rows w) w v (said (v ∷ ws)) (said ws)

-- The plan.

abbrev pub phrase_in : Says → Option Phrase
phrase_in (Profile p) = Some p
phrase_in _ = None

abbrev pub collects_in : Says → Option Bool
collects_in (Collects b) = Some b
collects_in _ = None

abbrev pub tables_in : Says → Option Bool
tables_in (Tables b) = Some b
tables_in _ = None

abbrev pub stack_in : Says → Option Bool
stack_in (ExecutesStack b) = Some b
stack_in _ = None

abbrev pub feature_in : Says → Option ℕ
feature_in (Feature n) = Some n
feature_in _ = None

abbrev pub segment_in : Says → Option ℕ
segment_in (Segment a) = Some a
segment_in _ = None

abbrev pub start_in : Says → Option Start
start_in (Begins s) = Some s
start_in _ = None

abbrev pub is_takes_first : Says → Bool
is_takes_first TakesFirst = true
is_takes_first _ = false

abbrev pub is_writes_code : Says → Bool
is_writes_code WritesCode = true
is_writes_code _ = false

abbrev pub is_strips_local : Says → Bool
is_strips_local StripsLocal = true
is_strips_local _ = false

abbrev pub phrases_of : List Says → List Phrase
phrases_of ss = filter_map phrase_in ss

abbrev pub last_of : {X : Type 0} → (Says → Option X) → List Says → Option X
last_of says ss = last_or None (filter_map says ss)

abbrev pub plan_said : List Says → ForeignPlan
plan_said ss = record {
  plan = plan_of_phrases (phrases_of ss);
  collects = unwrap_or (last_of collects_in ss) false;
  tables = unwrap_or (last_of tables_in ss) false;
  takes_first = list_any is_takes_first ss;
  writes_code = list_any is_writes_code ss;
  executes_stack = last_of stack_in ss;
  features = fold bit_or 0 (filter_map feature_in ss);
  segment = last_of segment_in ss;
  starts = filter_map start_in ss;
  strips = (plan_of_phrases (phrases_of ss)).strip;
  strips_local = list_any is_strips_local ss;
  script = None;
}

-- words are those of a link that is judged, and this is what they ask for: groups are closed, aren't nested and have archives
-- alone, and there is something to link
pub record IsAsked (words : List (List ℕ)) (plan : ForeignPlan) : Type 0 where
  pub says : List Says
  pub said_is : said words ≡ Some says
  pub grouped : AllFollow [] (phrases_of says)
  pub closed : is_open (phrases_of says) ≡ false
  pub some : (length plan.plan.items == 0) ≡ false
  pub plan_is : plan ≡ plan_said says
