-- Octets inside a string, scanned at once.
use Rattle.std.proofs.Common.{◌≡◌, ℕ, ◌+◌, ◌<◌, ◌≤◌, true, nat_le, if◌then◌else◌, List, [], ◌∷◌, ◌++◌, length, take, sym, ap, ◌∙◌, subst, arith}
use Rattle.std.proofs.lemmas.List.{length-append, take_all}
use Rattle.std.proofs.lemmas.Bool.{lt-ltb, le-leb, leb-true}
use Rattle.krb_der.specs.Octets.{AreOctets}
use Rattle.krb_der.specs.declared.why.Why.TheVariants as why
use Rattle.krb_msg.specs.Term.{Term, Text, Octets}
use Rattle.krb_msg.specs.Judgement.{Open, Bad, Done, each_contents, text_octet}
use Rattle.krb_scan.specs.Scan.{Mark, Container, State, state_of, InLeaf, scan_then, leaf_outcome, of_leaf, Answer, Ongoing, answer, scan}
use Rattle.krb_scan.specs.Runs.{is_string}
use Rattle.krb_scan.specs.inner.Machine.{step, go_on, initial}
use Rattle.krb_scan.proofs.Resume.{Reached, ReachedAnswer, run, run_scan, run_right, step_reached, initial_reached, ongoing_reached, scan_rest}
use Rattle.krb_scan.proofs.Prefix.{scan_append}

run_reached : (state : State) (octets : List ℕ) → Reached state → ReachedAnswer (run state octets)
run_reached state [] h = ongoing_reached state h
run_reached state (octet ∷ octets) h = by_answer (step state octet) (step_reached state octet h) (λ then_state k. run_reached then_state octets k)
  where
    by_answer : (given : Answer) → ReachedAnswer given → ((then_state : State) → Reached then_state → ReachedAnswer (run then_state octets)) → ReachedAnswer (go_on given (λ then_state. run then_state octets))
    by_answer (Ongoing then_state) r k = k then_state r.reached
    by_answer other r k = record { reached = tt {0} }

-- each state of a scan is one in which an octet is expected
pub scan_reached : (terms : List Term) (n : ℕ) (octets : List ℕ) → 0 < n → ReachedAnswer (scan terms n octets)
scan_reached terms n octets some = subst ReachedAnswer (sym (run_scan terms n octets some)) (run_reached (initial terms n) octets (initial_reached terms n some))

string_open : (term : Term) (count : ℕ) (octets : List ℕ) → is_string term ≡ true → AreOctets octets → length octets < count → leaf_outcome term count octets ≡ Open
string_open (Text greatest) count octets h are le = text_open greatest count 0 octets h are (omega arith)
  where
    text_open : (greatest count place : ℕ) (octets : List ℕ) → nat_le 255 greatest ≡ true → AreOctets octets → place + length octets < count → each_contents (text_octet greatest) why.Charset count place octets ≡ Open
    text_open greatest count place [] h are le = ap (λ b. if b then Open else Done count) (lt-ltb place count (omega arith))
    text_open greatest count place (octet ∷ octets) h are le =
        let all : 255 ≤ greatest = leb-true 255 greatest h in
        let byte : octet < 256 = are.0 in
        ap (λ b. if b then each_contents (text_octet greatest) why.Charset count (place + 1) octets else Bad place why.Charset) (le-leb octet greatest (omega arith))
        ∙ text_open greatest count (place + 1) octets h are.1 (omega arith)
string_open Octets count octets h are le = ap (λ b. if b then Open else Done count) (lt-ltb (length octets) count le)
string_open other count octets h are le = absurd (cc h)

-- Octets inside an open string that stop short of its last one change nothing but how many were scanned.
pub chunk_right : (terms : List Term) (n : ℕ) (octets chunk : List ℕ) (term : Term) (start count : ℕ) (present : List ℕ) (stack : List Container) (marks : List Mark) → 0 < n → is_string term ≡ true → AreOctets (present ++ chunk) → length present + length chunk < count →
    scan terms n octets ≡ Ongoing (state_of marks stack (InLeaf term start count present)) → scan terms n (octets ++ chunk) ≡ Ongoing (state_of marks stack (InLeaf term start count (present ++ chunk)))
chunk_right terms n octets chunk term start count present stack marks some string are short h =
    let reached : ReachedAnswer (Ongoing (state_of marks stack (InLeaf term start count present))) = subst ReachedAnswer h (scan_reached terms n octets some) in
    let size : length (present ++ chunk) < count = omega (arith, length-append present chunk) in
    let part : take count (present ++ chunk) ≡ present ++ chunk = take_all count (present ++ chunk) (omega arith) in
    let open_still : leaf_outcome term count (take count (present ++ chunk)) ≡ Open = ap (leaf_outcome term count) part ∙ string_open term count (present ++ chunk) string are size in
    scan_append terms n octets chunk some
    ∙ ap (λ given. go_on given (λ state. run state chunk)) h
    ∙ sym (run_right (state_of marks stack (InLeaf term start count present)) chunk reached.reached)
    ∙ ap (λ outcome. answer (scan_then (of_leaf outcome term start count stack marks (present ++ chunk)) (scan_rest stack))) open_still
