-- The options that choose, as the code has them, and what is said by steps.
use Rattle.std.specs.Prelude.{◌≡◌, Option, Some, None, Result, Ok, Err}
use Rattle.std.specs.Option.{option_map}
use Rattle.clap.specs.Words.{Text}
use Rattle.krb_words.specs.Chosen.{Options}
use Rattle.krb_words.specs.declared.choice.Options.{Options as RustOptions}

abbrev pub options_of : RustOptions → Options
options_of o = record {
  listings = o.listings.now;
  only = option_map (λ text. text.now) o.only;
  fields = option_map (λ text. text.now) o.fields;
  has_header = o.has_header;
  form = o.form;
  naming = o.naming;
}

-- what is said of the first word that is none, if there is one
abbrev pub SaysFirst : Option Text → (Text → Text → Type 0) → Text → Type 0
SaysFirst None IsSaid text = ⊥
SaysFirst (Some word) IsSaid text = IsSaid word text

-- it is there, with a fact
abbrev pub IsOkOf : {A E : Type 0} → Result A E → (A → Type 0) → Type 0
IsOkOf (Ok a) P = P a
IsOkOf (Err e) P = ⊥
