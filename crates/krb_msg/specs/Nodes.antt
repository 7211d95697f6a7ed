-- The rows of the table of the grammar, as terms: row k is that of the term at k.
use Rattle.std.specs.Prelude.{ℕ, true, false, List, [], ◌∷◌, ◌++◌, map, get_or}
use Rattle.std.specs.List.{flat_map}
use Rattle.krb_der.specs.declared.profile.Profile.{Profile}
use Rattle.krb_der.specs.declared.profile.Profile.TheVariants.{Lenient, Strict}
use Rattle.krb_msg.specs.Profiles.{profile_term}
use Rattle.krb_msg.specs.Term.{Term, Application}
use Rattle.krb_msg.specs.Basic.{int32}
use Rattle.krb_msg.specs.Rows.{basic_terms, optional_lists, sequence_terms, tagged_terms, optional_tagged_lists}

-- a term, and the SEQUENCE in its tag
abbrev pub own : Term → List Term
own (Application number term) = Application number term ∷ own term
own term = term ∷ []

-- the terms of a profile. The lists of addresses, of Tickets and of PA-DATA are in fields that are OPTIONAL, but for the Tickets of a KRB-CRED
abbrev pub profile_nodes : Profile → List Term
profile_nodes profile =
    map (profile_term profile false) basic_terms
    ++ map (profile_term profile true) optional_lists
    ++ flat_map (λ term. own (profile_term profile false term)) sequence_terms
    ++ map (profile_term profile false) tagged_terms
    ++ map (profile_term profile true) optional_tagged_lists

-- those of the lenient profile, and then those of the strict one
unfoldable pub nodes : List Term
nodes = profile_nodes Lenient ++ profile_nodes Strict

-- the term at a place of a list
unfoldable pub term_in : List Term → ℕ → Term
term_in terms node = get_or terms node int32

abbrev pub term_at : ℕ → Term
term_at = term_in nodes
