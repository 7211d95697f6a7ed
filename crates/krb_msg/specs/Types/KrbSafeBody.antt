-- KRB-SAFE-BODY (RFC 4120, 5.6.1): values of the type and of views of it, as values of its term, and back. asn1/generate wrote this from asn1/krb5.asn1
use Rattle.std.specs.Prelude.{pos, ◌≤ℤ◌, ◌^◌, ◌<◌, length}
use Rattle.std.specs.Option.{option_map}
use Rattle.krb_msg.specs.Term.{Value, IfPresent, IsTimeFrom}
use Rattle.krb_msg.specs.Basic.{micros_of}
use Rattle.krb_msg.specs.Grammar.{krb_safe_body}
use Rattle.krb_msg.specs.declared.krb_safe_body.KrbSafeBody.{KrbSafeBody}
use Rattle.krb_msg.specs.declared.krb_safe_body.KrbSafeBodyView.{KrbSafeBodyView}
use Rattle.krb_msg.specs.Types.HostAddress.{host_address_value, host_address_of, host_address_view_value, IsValidHostAddress}

abbrev pub krb_safe_body_value : KrbSafeBody → Value krb_safe_body
krb_safe_body_value b =
    (b.user_data, (b.timestamp, (option_map pos b.usec, (b.seq_number, (host_address_value b.s_address, (option_map host_address_value b.r_address, tt))))))

abbrev pub krb_safe_body_of : Value krb_safe_body → KrbSafeBody
krb_safe_body_of (user_data, (timestamp, (usec, (seq_number, (s_address, (r_address, none)))))) = record {
  user_data = user_data;
  timestamp = timestamp;
  usec = option_map micros_of usec;
  seq_number = seq_number;
  s_address = host_address_of s_address;
  r_address = option_map host_address_of r_address;
}

-- ---- a view of it: as a value of its term, as a value of the type, and what is known of it
abbrev pub krb_safe_body_view_value : KrbSafeBodyView → Value krb_safe_body
krb_safe_body_view_value b = (
  b.user_data.now,
  (
    option_map (λ time. time.now) b.timestamp,
    (b.usec, (b.seq_number, (host_address_view_value b.s_address, (option_map host_address_view_value b.r_address, tt)))),
  ),
)

abbrev pub krb_safe_body_of_view : KrbSafeBodyView → KrbSafeBody
krb_safe_body_of_view b = krb_safe_body_of (krb_safe_body_view_value b)

pub record IsValidKrbSafeBody (b : KrbSafeBodyView) : Type 0 where
  pub user_data : length b.user_data.now < 2 ^ 31
  pub timestamp : IfPresent (λ time. IsTimeFrom 14 time.now) b.timestamp
  pub usec : IfPresent (λ number. pos 0 ≤ℤ number) b.usec
  pub s_address : IsValidHostAddress b.s_address
  pub r_address : IfPresent IsValidHostAddress b.r_address
