use Rattle.std.proofs.Common.{sym, ap, ◌∙◌, rules}
use Rattle.blocks.specs.Layout.{Row}
use Rattle.blocks.proofs.Runs.{list-number, list_same, row_passes}
use Rattle.blocks.proofs.rows.check_row.Goals as goal

pub returns-in_err-check : goal.returns-in_err-check
returns-in_err-check c =
    let n = list-number _ _ _ c.in_ok-list.ensures.back ∙ ap (λ (r : Row). r.list) c.raw_row-row.ensures in
    let l = sym (list_same _ _ _ c.in_ok-list.list c.requires) ∙ sym c.is_list_refused.ensures ∙ c.if-is_list_refused.false in
    let p = row_passes _ _ _ _ _ _ n c.raw_row-row.ensures l in
    search rules

pub returns : goal.returns
returns c =
    let n = list-number _ _ _ c.in_ok-list.ensures.back ∙ ap (λ (r : Row). r.list) c.raw_row-row.ensures in
    let l = sym (list_same _ _ _ c.in_ok-list.list c.requires) ∙ sym c.is_list_refused.ensures ∙ c.if-is_list_refused.false in
    let p = row_passes _ _ _ _ _ _ n c.raw_row-row.ensures l in
    record { fault = search rules; list = n }
