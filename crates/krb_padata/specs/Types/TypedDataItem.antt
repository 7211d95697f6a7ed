-- TYPED-DATA-ITEM (RFC 4120, 5.9.1): values of the type and of views of it, as values of its term, and back. asn1/generate wrote this from asn1/padata.asn1
use Rattle.std.specs.Prelude.{◌^◌, ◌<◌, length}
use Rattle.std.specs.Option.{option_map}
use Rattle.krb_msg.specs.Term.{Value, IfPresent}
use Rattle.krb_padata.specs.Grammar.{typed_data_item}
use Rattle.krb_padata.specs.declared.typed_data_item.TypedDataItem.{TypedDataItem}
use Rattle.krb_padata.specs.declared.typed_data_item.TypedDataItemView.{TypedDataItemView}

abbrev pub typed_data_item_value : TypedDataItem → Value typed_data_item
typed_data_item_value t = (t.data_type, (t.data_value, tt))

abbrev pub typed_data_item_of : Value typed_data_item → TypedDataItem
typed_data_item_of v = record { data_type = v.0; data_value = v.1.0 }

-- ---- a view of it: as a value of its term, as a value of the type, and what is known of it
abbrev pub typed_data_item_view_value : TypedDataItemView → Value typed_data_item
typed_data_item_view_value t = (t.data_type, (option_map (λ octets. octets.now) t.data_value, tt))

abbrev pub typed_data_item_of_view : TypedDataItemView → TypedDataItem
typed_data_item_of_view t = typed_data_item_of (typed_data_item_view_value t)

abbrev pub IsValidTypedDataItem : TypedDataItemView → Type 0
IsValidTypedDataItem t = IfPresent (λ octets. length octets.now < 2 ^ 31) t.data_value
