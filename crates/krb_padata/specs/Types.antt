-- The types of the grammar, a file each: values of a type as those of its term, and back; views of it. asn1/generate wrote this from asn1/padata.asn1
pub mod EtypeInfoEntry
pub mod EtypeInfo2Entry
pub mod KrbFastArmor
pub mod KrbFastArmoredReq
pub mod KrbFastArmoredRep
pub mod PaForUser
pub mod PaPacOptions
pub mod TypedDataItem
pub mod KerbErrorData
pub use EtypeInfoEntry.{etype_info_entry_value, etype_info_entry_of, etype_info_entry_view_value, etype_info_entry_of_view, IsValidEtypeInfoEntry}
pub use EtypeInfo2Entry.{etype_info2_entry_value, etype_info2_entry_of, etype_info2_entry_view_value, etype_info2_entry_of_view, IsValidEtypeInfo2Entry}
pub use KrbFastArmor.{krb_fast_armor_value, krb_fast_armor_of, krb_fast_armor_view_value, krb_fast_armor_of_view, IsValidKrbFastArmor}
pub use KrbFastArmoredReq.{krb_fast_armored_req_value, krb_fast_armored_req_of, krb_fast_armored_req_view_value, krb_fast_armored_req_of_view, IsValidKrbFastArmoredReq}
pub use KrbFastArmoredRep.{krb_fast_armored_rep_value, krb_fast_armored_rep_of, krb_fast_armored_rep_view_value, krb_fast_armored_rep_of_view, IsValidKrbFastArmoredRep}
pub use PaForUser.{pa_for_user_value, pa_for_user_of, pa_for_user_view_value, pa_for_user_of_view, IsValidPaForUser}
pub use PaPacOptions.{pa_pac_options_value, pa_pac_options_of, pa_pac_options_view_value, pa_pac_options_of_view, IsValidPaPacOptions}
pub use TypedDataItem.{typed_data_item_value, typed_data_item_of, typed_data_item_view_value, typed_data_item_of_view, IsValidTypedDataItem}
pub use KerbErrorData.{kerb_error_data_value, kerb_error_data_of, kerb_error_data_view_value, kerb_error_data_of_view, IsValidKerbErrorData}
