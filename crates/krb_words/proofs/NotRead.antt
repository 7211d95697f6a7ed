-- Words that are no command line.
use Rattle.std.proofs.Common.{◌≡◌, ℕ, inl, inr, Bool, true, false, List, [], ◌∷◌, map, Option, Some, None, is_some, Result, Err, refl, sym, ◌∙◌, ap, subst, find, string_bytes}
use Rattle.clap.specs.Words.{App, HasKind, HasMatchesOf, IsAmong, Kinds, Row, Shape, Text, TriesOne, built, fault_of, is_simple_and_free, kind_of, subcommand_of, subcommand_rows_of}
use Rattle.clap.specs.Faults.{check_fault, entered_fault, level_fault}
use Rattle.clap.specs.Kinds.{or_else}
use Rattle.clap.specs.Simple.{argument_words, entered, is_simple, label_of, names_of, rows_at}
use Rattle.clap.specs.Walk.{Held, Names, answers_to, finished, nothing_held, stop_after, walk}
use Rattle.clap.specs.declared.error.Error.{Error}
use Rattle.clap.specs.declared.error.kind.ErrorKind.{ErrorKind}
use Rattle.clap.specs.declared.parser.matches.ArgMatches.{ArgMatches}
use Rattle.krb_words.specs.Chosen.{IfSaid}
use Rattle.krb_words.specs.Words.{FindsUnfit, IsFaultFor, IsNoNumber, IsRequest, IsWrongBy, krbls}
use Rattle.krb_words.specs.Times.{Spells}
use Rattle.krb_words.specs.declared.words.WordsFault.{WordsFault}
use Rattle.krb_words.specs.declared.words.WordsFault.TheVariants as faults
use Rattle.krb_words.specs.inner.NotRead.{FindsNoJob, IfWrong, IsNoneOf, IsNoText, commands}
use Rattle.krb_words.proofs.Matched.{krbls-free, krbls-simple}

pub wrong : (e : WordsFault) (P : Type 0) → P → IfWrong e P
wrong (faults.Wrong text) P p = p
wrong faults.Memory P p = tt

-- ---- numbers
-- what a getter of a type does not return of a text is no number
pub no_number_found : (E : Type 0) (gives : Text → Result ℕ E → Type 0) (text : Option Text) (e : E) → ((t : Text) → gives t (Err e) → (n : ℕ) → Spells t n → ⊥)
    → (text ≡ None → ⊥) → ((t : Text) → text ≡ Some t → TriesOne gives t (Err e)) → IsNoNumber 0 4294967295 text
no_number_found E gives None e spells none value = absurd (none refl)
no_number_found E gives (Some t) e spells none value = λ n s low high. spells t (value t refl) n s

-- ---- the command
or_else-nil : (first next : Kinds) → or_else first next ≡ [] → next ≡ []
or_else-nil [] next e = e
or_else-nil (k ∷ ks) next e = cc

-- where a subcommand is wanted and nothing is at fault, one was met
met_if_wanted : (s : Shape) (rows : List Row) (met : Bool) → s.arg_required_else_help ≡ false → s.subcommand_required ≡ true → check_fault s rows met ≡ [] → met ≡ true
met_if_wanted s rows true help wanted e = refl
met_if_wanted s rows false help wanted e = let missing = rw (help, wanted) at e in cc

level_met : (s : Shape) (names : Names) (h : Held) (words : List Text) (met : Bool) (below : Kinds) → s.arg_required_else_help ≡ false → s.subcommand_required ≡ true
    → level_fault s names h words met below ≡ [] → met ≡ true
level_met s names h words met below help wanted e =
    met_if_wanted s (finished s.rules (walk s.rules names h words).held) met help wanted (or_else-nil _ _ (or_else-nil _ _ (or_else-nil below _ (or_else-nil _ _ e))))

name_found : (p : Shape → Bool) (subs : List Shape) (s : Shape) → find p subs ≡ Some s → IsNoneOf (map (λ (x : Shape). x.name) subs) s.name → ⊥
name_found p [] s e none = cc
name_found p (x ∷ xs) s e none = go (p x) refl (λ rest. name_found p xs s rest none.1)
  where
    go : (b : Bool) → p x ≡ b → (find p xs ≡ Some s → ⊥) → ⊥
    go true is others = let same : Some x ≡ Some s = rw is at e in let one : s.name ≡ x.name = cc in none.0 one
    go false is others = others (rw is at e)

-- the subcommand that was met is one of the command's
entered_known : (a : App) (stop : Option (Text × List Text)) (met : Text × List Row) → entered a stop ≡ Some met → IsNoneOf (map (λ (x : Shape). x.name) a.subs) met.0 → ⊥
entered_known a None met e none = cc
entered_known a (Some p) met e none = go (find (λ s. answers_to p.0 (label_of s)) a.subs) refl
  where
    go : (found : Option Shape) → find (λ s. answers_to p.0 (label_of s)) a.subs ≡ found → ⊥
    go None is = let out = rw is at e in cc
    go (Some s) is =
        let same : Some (rows_at s p.1) ≡ Some met = rw is at e in
        let name : s.name ≡ met.0 = cc in
        name_found (λ x. answers_to p.0 (label_of x)) a.subs s is (subst (IsNoneOf (map (λ (x : Shape). x.name) a.subs)) (sym name) none)

find_unfit : (a : App) (stop : Option (Text × List Text)) (met : Option (Text × List Row)) (text : Text) → map (λ (x : Shape). x.name) a.subs ≡ commands → entered a stop ≡ met → is_some met ≡ true
    → FindsNoJob met text → FindsUnfit met text
find_unfit a stop None text names is some none = cc
find_unfit a stop (Some met) text names is some (inl none) = absurd (entered_known a stop met is (subst (λ l. IsNoneOf l met.0) (sym names) none))
find_unfit a stop (Some met) text names is some (inr none) = none

words_find_unfit : (words : List Text) (text : Text) → fault_of krbls words ≡ [] → FindsNoJob (subcommand_of krbls words) text → FindsUnfit (subcommand_of krbls words) text
words_find_unfit words text e none =
    let a = built krbls in
    let taken = argument_words krbls words in
    let stop = stop_after a.top.rules (names_of a) taken in
    find_unfit a stop (entered a stop) text refl refl (level_met a.top (names_of a) nothing_held taken (is_some (entered a stop)) (entered_fault a stop) refl refl e) none

-- ---- what is wrong with words
wrong_by_nothing : (kinds : Kinds) (words : List Text) (text : Text) → kinds ≡ [] → FindsUnfit (subcommand_of krbls words) text → IsWrongBy kinds words text
wrong_by_nothing [] words text e out = out
wrong_by_nothing (first ∷ kinds) words text e out = cc

wrong_by_kind : (kinds : Kinds) (words : List Text) (text : Text) (kind : ErrorKind) → IsAmong kind kinds → (IsRequest kind → ⊥) → IsWrongBy kinds words text
wrong_by_kind [] words text kind among request = absurd among
wrong_by_kind (first ∷ kinds) words text kind among request = (kind, among, request)

-- by their matches
pub IsFaultFor-matches : (app : App) (texts : List Text) (m : ArgMatches) (e : WordsFault) → app ≡ krbls → (is_simple_and_free app ≡ true → fault_of app texts ≡ []) → HasMatchesOf app texts m
    → IfSaid e (FindsNoJob (subcommand_rows_of m)) → IsFaultFor texts e
IsFaultFor-matches app texts m (faults.Wrong text) is nothing has none =
    let free : is_simple_and_free app ≡ true = ap is_simple_and_free is ∙ krbls-free in
    let simple : is_simple app ≡ true = ap is_simple is ∙ krbls-simple in
    let kinds : fault_of krbls texts ≡ [] = ap (λ a. fault_of a texts) (sym is) ∙ nothing free in
    let rows : subcommand_rows_of m ≡ subcommand_of krbls texts = (has simple).1 ∙ ap (λ a. subcommand_of a texts) is in
    wrong_by_nothing (fault_of krbls texts) texts (string_bytes text) kinds (words_find_unfit texts (string_bytes text) kinds (subst (λ met. FindsNoJob met (string_bytes text)) rows none))
IsFaultFor-matches app texts m faults.Memory is nothing has none = tt

among : (kinds : Kinds) (error : Error) → HasKind kinds error → IsNoText (kind_of error) → IsAmong (kind_of error) kinds
among kinds error (inl memory) out = absurd (out.1 memory)
among kinds error (inr a) out = a

-- by an error of `clap`
pub IsFaultFor-error : (app : App) (texts : List Text) (error : Error) (e : WordsFault) → app ≡ krbls → (is_simple_and_free app ≡ true → HasKind (fault_of app texts) error)
    → IfWrong e (IsNoText (kind_of error)) → IsFaultFor texts e
IsFaultFor-error app texts error (faults.Wrong text) is fails out =
    let free : is_simple_and_free app ≡ true = ap is_simple_and_free is ∙ krbls-free in
    wrong_by_kind (fault_of krbls texts) texts (string_bytes text) (kind_of error) (subst (λ a. IsAmong (kind_of error) (fault_of a texts)) is (among (fault_of app texts) error (fails free) out)) out.0
IsFaultFor-error app texts error faults.Memory is fails out = tt
