use Rattle.std.proofs.Common.{◌∙◌, subst, sym}
use Rattle.krb_der.specs.inner.Numbers.{AreOctets-slice}
use Rattle.krb_judge.specs.Parses.{AreOfMethodData}
use Rattle.krb_values.proofs.Parsed.{as_fault, value_of_memory, method_data_fits, refused_of_memory, refused_of_value, same_method_data, method_data_not_refused, no_method_data}
use Rattle.krb_values.proofs.parsing.parse_method_data.Goals as goal

pub from_view-requires : goal.from_view-requires
from_view-requires c = (method_data_fits _ c.in-Ok.ensures.items, c.in-Ok.ensures.lists)

pub returns-in_err-from_view-in-Ok-clause-found : goal.returns-in_err-from_view-in-Ok-clause-found
returns-in_err-from_view-in-Ok-clause-found c = λ items a. (value_of_memory _ c.from_residual.result c.from_residual.ensures.1, method_data_not_refused items a)

pub returns-in_err-from_view-in-Ok-clause-refused : goal.returns-in_err-from_view-in-Ok-clause-refused
returns-in_err-from_view-in-Ok-clause-refused c = refused_of_memory c.from_residual.result c.from_residual.ensures.1 (method_data_not_refused _ c.in-Ok.ensures.items)

pub returns-in_ok-from_view-in-Ok-clause-refused : goal.returns-in_ok-from_view-in-Ok-clause-refused
returns-in_ok-from_view-in-Ok-clause-refused c = refused_of_value c.into_vec.result (method_data_not_refused _ c.in-Ok.ensures.items)

pub returns-in_err-from_view-in-Ok-clause-none : goal.returns-in_err-from_view-in-Ok-clause-none
returns-in_err-from_view-in-Ok-clause-none c = no_method_data c.args.octets.now (AreOctets-slice c.args.octets.now c.type_inv.octets)

pub returns-in_ok-from_view-in-Ok-clause-items : goal.returns-in_ok-from_view-in-Ok-clause-items
returns-in_ok-from_view-in-Ok-clause-items c = subst (AreOfMethodData c.args.octets.now) (sym (c.into_vec.ensures ∙ c.in_ok-from_view-in-Ok.ensures)) c.in-Ok.ensures.items

pub returns-in_ok-from_view-in-Ok-clause-found : goal.returns-in_ok-from_view-in-Ok-clause-found
returns-in_ok-from_view-in-Ok-clause-found c =
    let are = subst (AreOfMethodData c.args.octets.now) (sym (c.into_vec.ensures ∙ c.in_ok-from_view-in-Ok.ensures)) c.in-Ok.ensures.items in
    λ items a. (same_method_data _ items are a, method_data_not_refused items a)

pub returns-in_ok-from_view-in-Ok-clause-none : goal.returns-in_ok-from_view-in-Ok-clause-none
returns-in_ok-from_view-in-Ok-clause-none c = no_method_data c.args.octets.now (AreOctets-slice c.args.octets.now c.type_inv.octets)

pub returns-in-Err-clause-found : goal.returns-in-Err-clause-found
returns-in-Err-clause-found c = λ items f. (tt, method_data_not_refused items f)

pub returns-in-Err-clause-refused : goal.returns-in-Err-clause-refused
returns-in-Err-clause-refused c = as_fault c.in-Err.refusal c.in-Err.ensures.refused

pub returns-in-Err-clause-none : goal.returns-in-Err-clause-none
returns-in-Err-clause-none c = no_method_data c.args.octets.now (AreOctets-slice c.args.octets.now c.type_inv.octets)
