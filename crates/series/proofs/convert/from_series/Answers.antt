-- `convert::from_series` meets its contract.
use mathlib.Core.Path.{sym, ◌∙◌}
use Rattle.series.proofs.laws.ConversionLaws.{series_good, conversion_of_good, conversion_of_bad}
use Rattle.series.proofs.laws.ConversionSound.{series_allowed}
use Rattle.series.proofs.convert.from_series.Goals as goal

pub convert_good-requires : goal.convert_good-requires
convert_good-requires c = sym (series_good c.args.s) ∙ c.in-Ok.ensures.ok.0

pub returns-in-Ok : goal.returns-in-Ok
returns-in-Ok c =
    let s = c.args.s in
    let e = c.convert_good.ensures ∙ conversion_of_good s (sym (series_good s) ∙ c.in-Ok.ensures.ok.0) in
    record { result_value = e; series_allowed = series_allowed s c.convert_good.result e }

pub returns-in-Err-clause-result_value : goal.returns-in-Err-clause-result_value
returns-in-Err-clause-result_value c = conversion_of_bad c.args.s (sym (series_good c.args.s) ∙ c.in-Err.ensures.err.0)
