-- What is written of several findings.
use Rattle.std.proofs.Common.{◌≡◌, Result, Ok, Err, IfOk, OnOk, List, [], ◌∷◌, ◌++◌, refl, sym, ◌∙◌, ap, append-nil, append_assoc}
use Rattle.krb_record.specs.declared.capture_origin.CaptureOrigin.{CaptureOrigin}
use Rattle.krb_record.specs.declared.flow.Transport.TheVariants as transports
use Rattle.krb_capture.specs.Captures.{Finding, counted_each, happened_each, lines_of, over_tcp, over_udp, with_each}
use Rattle.krb_capture.specs.Directions.{in_flow}
use Rattle.krb_capture.specs.Flows.{origin_of}
use Rattle.krb_capture.specs.Found.{Found, Written, found_happened, found_text, with_all, with_found}
use Rattle.krb_capture.specs.declared.flow.Due.{Due}
use Rattle.krb_capture.specs.declared.flow.Flow.{Flow}
use Rattle.krb_packet.specs.declared.contents.Datagram.{Datagram}

pub with_each-append : (xs ys : List Finding) (w : Written) → with_each (xs ++ ys) w ≡ with_each ys (with_each xs w)
with_each-append [] ys w = refl
with_each-append (x ∷ xs) ys w = with_each-append xs ys (with_found x.0 x.1 w)

-- of one flow
pub with_each-flow : (due : Due) (flow : Flow) (xs : List Found) (w : Written) → with_each (over_tcp due (in_flow flow xs)) w ≡ with_all (origin_of due transports.Tcp flow.source flow.target) xs w
with_each-flow due flow [] w = refl
with_each-flow due flow (x ∷ xs) w = with_each-flow due flow xs (with_found (origin_of due transports.Tcp flow.source flow.target) x w)

pub with_each-datagram : (due : Due) (datagram : Datagram) (xs : List Found) (w : Written) → with_each (over_udp due datagram xs) w ≡ with_all (origin_of due transports.Udp datagram.source datagram.target) xs w
with_each-datagram due datagram [] w = refl
with_each-datagram due datagram (x ∷ xs) w = with_each-datagram due datagram xs (with_found (origin_of due transports.Udp datagram.source datagram.target) x w)

pub over_tcp-append : (due : Due) (xs ys : List (Flow × Found)) → over_tcp due (xs ++ ys) ≡ over_tcp due xs ++ over_tcp due ys
over_tcp-append due [] ys = refl
over_tcp-append due (x ∷ xs) ys = ap (λ l. (origin_of due transports.Tcp x.0.source x.0.target, x.1) ∷ l) (over_tcp-append due xs ys)

-- its parts
pub label-each : (xs : List Finding) (w : Written) → (with_each xs w).label ≡ w.label
label-each [] w = refl
label-each (x ∷ xs) w = label-each xs (with_found x.0 x.1 w)

pub text-each : (xs : List Finding) (w : Written) → (with_each xs w).text ≡ w.text ++ lines_of w.label w.happened xs
text-each [] w = sym (append-nil w.text)
text-each (x ∷ xs) w = text-each xs (with_found x.0 x.1 w) ∙ append_assoc w.text (found_text w.label x.0 x.1 w.happened) (lines_of w.label (found_happened x.0 x.1 w.happened) xs)

pub happened-each : (xs : List Finding) (w : Written) → (with_each xs w).happened ≡ happened_each xs w.happened
happened-each [] w = refl
happened-each (x ∷ xs) w = happened-each xs (with_found x.0 x.1 w)

pub counts-each : (xs : List Finding) (w : Written) → (with_each xs w).counts ≡ counted_each xs w.counts
counts-each [] w = refl
counts-each (x ∷ xs) w = counts-each xs (with_found x.0 x.1 w)

pub name-each : (xs : List Finding) (w : Written) → (with_each xs w).text_name ≡ w.text_name
name-each [] w = refl
name-each (x ∷ xs) w = name-each xs (with_found x.0 x.1 w)

pub name-all : (origin : CaptureOrigin) (xs : List Found) (w : Written) → (with_all origin xs w).text_name ≡ w.text_name
name-all origin [] w = refl
name-all origin (x ∷ xs) w = name-all origin xs (with_found origin x w)

-- of a flow by two names
pub flow-found : (due : Due) (flow flow' : Flow) (xs : List Found) (l l0 : Written) → l ≡ with_all (origin_of due transports.Tcp flow.source flow.target) xs l0 → flow ≡ flow' → l ≡ with_each (over_tcp due (in_flow flow' xs)) l0
flow-found due flow flow' xs l l0 e f = e ∙ ap (λ x. with_all (origin_of due transports.Tcp x.source x.target) xs l0) f ∙ sym (with_each-flow due flow' xs l0)

-- what follows if there is a value
pub on_ok-map : {T E P Q : Type 0} (result : Result T E) → (P → Q) → OnOk result P → OnOk result Q
on_ok-map (Ok x) f p = f p
on_ok-map (Err e) f p = tt

-- what two facts have, if there is a value
pub if_both : {T E : Type 0} (result : Result T E) (P : T → Type 0) (Q : Type 0) (R : T → Type 0) → IfOk result P → OnOk result Q → ((value : T) → P value → Q → R value) → IfOk result R
if_both (Ok x) P Q R p q f = f x p q
if_both (Err e) P Q R p q f = tt
