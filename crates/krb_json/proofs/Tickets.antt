-- The text of a Ticket, from its octets.
use Rattle.std.proofs.Common.{◌≡◌, ℕ, List, [], ◌∷◌, codes, ◌++◌, append_assoc, append-nil, sym, ◌∙◌, ap, subst}
use Rattle.json.specs.Token.{Token}
use Rattle.json.specs.Token as token
use Rattle.json.specs.Tree.{json_tokens}
use Rattle.krb_der.specs.Octets.{item}
use Rattle.krb_msg.specs.Grammar.{ticket}
use Rattle.krb_msg.specs.Nodes.{term_at}
use Rattle.krb_msg.specs.Term.{tag_of, der}
use Rattle.krb_msg.specs.Viewed.{HasNoItem}
use Rattle.krb_judge.specs.declared.locating.names.Names.TheVariants as names
use Rattle.krb_json.specs.Objects.{json}
use Rattle.krb_json.specs.inner.Writing.{Puts}
use Rattle.krb_json.specs.inner.Tickets.{PutsTicket}
use Rattle.krb_json.proofs.Walks.{own-item, none-begins}

-- a key, a value and what follows
chained : (t0 t1 t2 t3 : List Token) (k : List ℕ) (own others : List Token) → t1 ≡ t0 ++ token.key k ∷ [] → t2 ≡ t1 ++ own → t3 ≡ t2 ++ others → t3 ≡ t0 ++ (token.key k ∷ (own ++ others))
chained t0 t1 t2 t3 k own others a b c =
    c ∙ ap (λ l. l ++ others) (b ∙ ap (λ l. l ++ own) a)
    ∙ append_assoc (t0 ++ token.key k ∷ []) own others
    ∙ append_assoc t0 (token.key k ∷ []) (own ++ others)

pub puts-ticket : (node tag : ℕ) (octets own rest : List ℕ) (t0 t1 t2 t3 t4 : List Token) → term_at node ≡ ticket → tag ≡ tag_of (term_at node) → octets ≡ item tag own ++ rest → t1 ≡ t0 ++ token.begin_object ∷ [] → t2 ≡ t1 ++ token.key (codes "Ticket") ∷ [] → Puts (term_at node) names.Ticket own t2 t3 → t4 ≡ t3 ++ token.end_object ∷ [] → PutsTicket octets t0 t4
puts-ticket node tag octets own rest t0 t1 t2 t3 t4 termed tagged parts begins key put ends value fits form =
    let j : List Token = json_tokens (json ticket names.Ticket value) in
    let p = own-item ticket octets own rest [] value (parts ∙ ap (λ n. item n own ++ rest) (tagged ∙ ap tag_of termed)) fits (sym form ∙ sym (append-nil (der ticket value))) in
    chained t1 t2 t3 t4 (codes "Ticket") j (token.end_object ∷ []) key (subst (λ t. Puts t names.Ticket own t2 t3) termed put value p.0) ends
    ∙ ap (λ l. l ++ (token.key (codes "Ticket") ∷ (j ++ token.end_object ∷ []))) begins
    ∙ append_assoc t0 (token.begin_object ∷ []) (token.key (codes "Ticket") ∷ (j ++ token.end_object ∷ []))

pub puts-no_ticket : (node tag : ℕ) (octets : List ℕ) (t0 t4 : List Token) → term_at node ≡ ticket → tag ≡ tag_of (term_at node) → HasNoItem tag octets → PutsTicket octets t0 t4
puts-no_ticket node tag octets t0 t4 termed tagged none value fits form =
    absurd (none-begins ticket octets [] value (subst (λ n. HasNoItem n octets) (tagged ∙ ap tag_of termed) none) (sym form ∙ sym (append-nil (der ticket value))))
