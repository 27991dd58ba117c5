-- Parts without fault are fit.
use Rattle.std.proofs.Common.{◌≡◌, true, ◌∙◌, sym, ap}
use Rattle.std.specs.List.{list_all}
use Rattle.dm_base.specs.Fit.{is_sized, is_number}
use Rattle.dm_base.proofs.Fitting.{no_fault_of, one_number, AreFit}
use Rattle.dm_base.proofs.node.Node.new.Goals as goal

pub invariant_of-result : goal.invariant_of-result
invariant_of-result c =
    let sized : list_all is_sized c.args.addresses.items ≡ true =
    ap (list_all is_sized) (sym c.as_slice-in-None.ensures.value) ∙ c.addresses_have_their_sizes.ensures in
    let ids : list_all is_number c.args.auth.items ≡ true =
    ap (list_all is_number) (sym c.as_slice-in-None-2.ensures.value) ∙ c.ids_fit_32_bits.ensures in
    let more : list_all is_number c.args.acct.items ≡ true =
    ap (list_all is_number) (sym c.as_slice-in-None-3.ensures.value) ∙ c.ids_fit_32_bits-in-None.ensures in
    let fit : AreFit c.args.host.items c.args.realm.items c.args.addresses.items c.from_string-product.result
    c.args.auth.items c.args.acct.items =
    no_fault_of _ _ _ _ _ _ _ _ _ _ _ _ c.as_slice.ensures.value c.as_slice-2.ensures.value c.as_slice-3.ensures.value
    c.as_str.ensures.value c.as_slice-4.ensures.value c.as_slice-5.ensures.value
    (sym c.fault_of_node_parts.ensures ∙ c.in-None.is) sized c.text_is_utf8.ensures ids more in
    record {
      fit_host = rw c.from_vec.ensures fit.host_is;
      fit_realm = rw c.from_vec-in-None.ensures fit.realm_is;
      fit_addresses = rw c.from_vec-in-None-2.ensures fit.addresses_are;
      fit_vendor = one_number c.args.vendor c.ranges.vendor.fits;
      fit_product = fit.product_is;
      fit_auth = rw c.from_vec-in-None-3.ensures fit.auth_are;
      fit_acct = rw c.from_vec-in-None-4.ensures fit.acct_are;
    }
