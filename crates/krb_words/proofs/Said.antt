-- What is said of words that are wrong.
use Rattle.std.proofs.Common.{◌≡◌, ◌∙◌, Bool, IfNone, List, None, Ok, Err, Option, Result, Some, IfOk, ap, ap₂, codes, inl, inr, refl, string_bytes, subst, sym, true}
use Rattle.std.specs.Option.{option_map}
use Rattle.clap.specs.Words.{Row, Text, first_of}
use Rattle.krb_choice.specs.Choices.{Choice}
use Rattle.krb_fields.specs.Names.{all_kinds, all_names}
use Rattle.krb_fields.specs.declared.found.Name.{Name}
use Rattle.krb_fields.specs.declared.shape.Listing.{Listing}
use Rattle.krb_record.specs.declared.form.Form.{Form}
use Rattle.krb_record.specs.declared.form.Form.TheVariants as forms
use Rattle.krb_words.specs.Chosen.{AreNames, HaveNone, IfSaid, IsChoiceFault, IsChosen, IsChosenBy, IsErrorOf, IsRowsBy, Options, SaysKind, SaysKinds, SaysNames, SaysRest, first_unknown, listings_of, no_names_text, objects_text, words_if, words_of}
use Rattle.krb_words.specs.Words.{Chooses, IsGiven}
use Rattle.krb_words.specs.declared.words.Naming.{Naming}
use Rattle.krb_words.specs.declared.words.WordsFault.{WordsFault}
use Rattle.krb_words.specs.declared.words.WordsFault.TheVariants as faults
use Rattle.krb_words.specs.inner.Options.{IsOkOf, SaysFirst}

pub said_by : (e : WordsFault) → (P Q : Text → Type 0) → ((text : Text) → P text → Q text) → IfSaid e P → IfSaid e Q
said_by (faults.Wrong text) P Q more said = more (string_bytes text) said
said_by faults.Memory P Q more said = tt

-- a text that is there
pub ok_is : {S E : Type 0} → (r : Result S E) → (text : S → Text) → (P : Text → Type 0) → (said : Text) → IfOk r (λ s. P (text s)) → IsOkOf r (λ s. text s ≡ said) → P said
ok_is (Ok s) text P said holds is = subst P is holds
ok_is (Err e) text P said holds is = absurd is

pub error_by : (P Q : Text → Type 0) → ((text : Text) → P text → Q text) → (error : Text) → IsErrorOf P error → IsErrorOf Q error
error_by P Q more error said = (said.0, more said.0 said.1, said.2)

-- ---- of names that are all known
if_none_map : {K : Type 0} → (f : K → List Text) → (kinds : Option K) → (P : Type 0) → IfNone kinds P → IfNone (option_map f kinds) P
if_none_map f None P holds = holds
if_none_map f (Some kinds) P holds = tt

objects_by : (options : Options) → (kinds : Option (List Text)) → (words : Text) → (names : List Name) → AreNames options.listings (words_of words) names → IfNone kinds (HaveNone options.listings names → ⊥) → options.form ≡ forms.Json
    → SaysNames options kinds (Some words) None objects_text
objects_by options None words names are some json = (names, are, inr (some, (json, refl)))
objects_by options (Some kinds) words names are some json = (json, refl)

pub objects_said : {K : Type 0} → (f : K → List Text) → (options : Options) → (kinds : Option K) → (words : Text) → (names : List Name) → AreNames options.listings (words_of words) names
    → IfNone kinds (HaveNone options.listings names → ⊥) → options.form ≡ forms.Json
    → SaysNames options (option_map f kinds) (Some words) (first_unknown (all_names options.listings) (words_of words)) objects_text
objects_said f options kinds words names are some json =
    subst (λ unknown. SaysNames options (option_map f kinds) (Some words) unknown objects_text) (sym are.1)
    (objects_by options (option_map f kinds) words names are (if_none_map f kinds (HaveNone options.listings names → ⊥) some) json)

-- ---- by the options
-- a first row and no names
pub no_names_said : (options : Options) → (kinds : Option (List Text)) → options.has_header ≡ true → SaysRest options kinds None no_names_text
no_names_said options None given = (given, refl)
no_names_said options (Some kinds) given = inl (given, refl)

rows_chosen : (options : Options) → (kinds : Option (List Text)) → (words : Text) → (choice : Option Choice) → (header : Option Text) → IsRowsBy options kinds words choice header → IsChosenBy options kinds (Some words) choice header
rows_chosen options None words choice header is = is
rows_chosen options (Some kinds) words choice header is = is

pub chosen_names : (options : Options) → (kinds : Option (List Text)) → (words : Text) → (choice : Option Choice) → (header : Option Text) → kinds ≡ option_map words_of options.only → options.fields ≡ Some words
    → IsRowsBy options kinds words choice header → IsChosen options choice header
chosen_names options kinds words choice header kinds_is fields_is is =
    subst (λ fields. IsChosenBy options (option_map words_of options.only) fields choice header) (sym fields_is)
    (subst (λ kinds. IsChosenBy options kinds (Some words) choice header) kinds_is (rows_chosen options kinds words choice header is))

pub chosen_kinds : (options : Options) → (kinds : Option (List Text)) → (choice : Option Choice) → (header : Option Text) → kinds ≡ option_map words_of options.only → options.fields ≡ None
    → IsChosenBy options kinds None choice header → IsChosen options choice header
chosen_kinds options kinds choice header kinds_is fields_is is =
    subst (λ fields. IsChosenBy options (option_map words_of options.only) fields choice header) (sym fields_is) (subst (λ kinds. IsChosenBy options kinds None choice header) kinds_is is)

known_kinds : (options : Options) → (text : Text) → first_unknown (all_kinds options.listings) (words_if options.only) ≡ None
    → SaysNames options (option_map words_of options.only) options.fields (first_unknown (all_names options.listings) (words_if options.fields)) text → IsChoiceFault options text
known_kinds options text known is = subst (λ unknown. SaysKinds options unknown text) (sym known) is

pub fault_names : (options : Options) → (kinds : Option (List Text)) → (words text : Text) → kinds ≡ option_map words_of options.only → options.fields ≡ Some words → first_unknown (all_kinds options.listings) (words_if options.only) ≡ None
    → SaysNames options kinds (Some words) (first_unknown (all_names options.listings) (words_of words)) text → IsChoiceFault options text
fault_names options kinds words text kinds_is fields_is known is =
    known_kinds options text known
    (subst (λ fields. SaysNames options (option_map words_of options.only) fields (first_unknown (all_names options.listings) (words_if fields)) text) (sym fields_is)
    (subst (λ kinds. SaysNames options kinds (Some words) (first_unknown (all_names options.listings) (words_of words)) text) kinds_is is))

pub fault_kinds : (options : Options) → (kinds : Option (List Text)) → (text : Text) → kinds ≡ option_map words_of options.only → options.fields ≡ None → first_unknown (all_kinds options.listings) (words_if options.only) ≡ None
    → SaysRest options kinds None text → IsChoiceFault options text
fault_kinds options kinds text kinds_is fields_is known is =
    known_kinds options text known
    (subst (λ fields. SaysNames options (option_map words_of options.only) fields (first_unknown (all_names options.listings) (words_if fields)) text) (sym fields_is)
    (subst (λ kinds. SaysRest options kinds None text) kinds_is is))

first_said : (options : Options) → (unknown : Option Text) → (text : Text) → SaysFirst unknown (SaysKind options.listings) text → SaysKinds options unknown text
first_said options None text said = absurd said
first_said options (Some word) text said = said

pub fault_first : (options : Options) → (text : Text) → SaysFirst (first_unknown (all_kinds options.listings) (words_if options.only)) (SaysKind options.listings) text → IsChoiceFault options text
fault_first options text said = first_said options (first_unknown (all_kinds options.listings) (words_if options.only)) text said

-- ---- by the options that are found
abbrev options_by : Form → Naming → Bool → List Listing → Option Text → Option Text → Options
options_by listed named has_header listings only fields = record { listings = listings; only = only; fields = fields; has_header = has_header; form = listed; naming = named }

same_options : (listed : Form) → (named : Naming) → (has_header : Bool) → (ls ls2 : List Listing) → (only only2 fields fields2 : Option Text) → ls ≡ ls2 → only ≡ only2 → fields ≡ fields2
    → options_by listed named has_header ls only fields ≡ options_by listed named has_header ls2 only2 fields2
same_options listed named has_header ls ls2 only only2 fields fields2 one two three =
    ap₂ (λ l o. options_by listed named has_header l o fields) one two ∙ ap (λ f. options_by listed named has_header ls2 only2 f) three

pub chooses_by : (command : Text) → (rows : List Row) → (listed : Form) → (named : Naming) → (has_header : Bool) → (listings : List Listing) → (only fields : Option Text) → (Fact : Options → Type 0)
    → IsGiven (first_of (codes "header") rows) has_header → listings ≡ listings_of command → only ≡ first_of (codes "only") rows → fields ≡ first_of (codes "fields") rows
    → Fact (record { listings = listings; only = only; fields = fields; has_header = has_header; form = listed; naming = named })
    → Chooses command rows listed named Fact
chooses_by command rows listed named has_header listings only fields Fact given listings_is only_is fields_is fact = record {
  has_header = has_header;
  given = given;
  fact = subst Fact (same_options listed named has_header listings (listings_of command) only (first_of (codes "only") rows) fields (first_of (codes "fields") rows) listings_is only_is fields_is) fact;
}
