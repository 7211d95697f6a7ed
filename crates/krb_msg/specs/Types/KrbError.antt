-- KRB-ERROR (RFC 4120, 5.9.1): values of the type and of views of it, as values of its term, and back. asn1/generate wrote this from asn1/krb5.asn1
use Rattle.std.specs.Prelude.{pos, ◌≤ℤ◌, ◌^◌, ◌<◌, length}
use Rattle.std.specs.Option.{option_map}
use Rattle.krb_msg.specs.Term.{Value, IfPresent, IsTimeFrom}
use Rattle.krb_msg.specs.Basic.{micros_of}
use Rattle.krb_msg.specs.Grammar.{krb_error}
use Rattle.krb_msg.specs.declared.krb_error.KrbError.{KrbError}
use Rattle.krb_msg.specs.declared.krb_error.KrbErrorView.{KrbErrorView}
use Rattle.krb_msg.specs.Types.PrincipalName.{principal_name_value, principal_name_of, principal_name_view_value, IsValidPrincipalName}

abbrev pub krb_error_value : KrbError → Value krb_error
krb_error_value m = (
  pos 5,
  (
    pos 30,
    (
      m.ctime,
      (
        option_map pos m.cusec,
        (
          m.stime,
          (
            pos m.susec,
            (
              m.error_code,
              (
                m.crealm,
                (option_map principal_name_value m.cname, (m.realm, (principal_name_value m.sname, (m.e_text, (m.e_data, tt))))),
              ),
            ),
          ),
        ),
      ),
    ),
  ),
)

abbrev pub krb_error_of : Value krb_error → KrbError
krb_error_of (pvno, (msg_type, (ctime, (cusec, (stime, (susec, (error_code, (crealm, (cname, (realm, (sname, (e_text, (e_data, none))))))))))))) = record {
  ctime = ctime;
  cusec = option_map micros_of cusec;
  stime = stime;
  susec = micros_of susec;
  error_code = error_code;
  crealm = crealm;
  cname = option_map principal_name_of cname;
  realm = realm;
  sname = principal_name_of sname;
  e_text = e_text;
  e_data = e_data;
}

-- ---- a view of it: as a value of its term, as a value of the type, and what is known of it
abbrev pub krb_error_view_value : KrbErrorView → Value krb_error
krb_error_view_value m = (
  pos 5,
  (
    pos 30,
    (
      option_map (λ time. time.now) m.ctime,
      (
        m.cusec,
        (
          m.stime.now,
          (
            m.susec,
            (
              m.error_code,
              (
                option_map (λ octets. octets.now) m.crealm,
                (
                  option_map principal_name_view_value m.cname,
                  (
                    m.realm.now,
                    (
                      principal_name_view_value m.sname,
                      (option_map (λ octets. octets.now) m.e_text, (option_map (λ octets. octets.now) m.e_data, tt)),
                    ),
                  ),
                ),
              ),
            ),
          ),
        ),
      ),
    ),
  ),
)

abbrev pub krb_error_of_view : KrbErrorView → KrbError
krb_error_of_view m = krb_error_of (krb_error_view_value m)

pub record IsValidKrbError (m : KrbErrorView) : Type 0 where
  pub ctime : IfPresent (λ time. IsTimeFrom 14 time.now) m.ctime
  pub cusec : IfPresent (λ number. pos 0 ≤ℤ number) m.cusec
  pub stime : IsTimeFrom 14 m.stime.now
  pub susec : pos 0 ≤ℤ m.susec
  pub cname : IfPresent IsValidPrincipalName m.cname
  pub sname : IsValidPrincipalName m.sname
  pub e_data : IfPresent (λ octets. length octets.now < 2 ^ 31) m.e_data
