-- `ferruntzo_from_series` meets its contract.
use Rattle.std.proofs.Common.{rules}
use Rattle.series.specs.definitions.Promise.{SeriesAllowed}
use Rattle.series.proofs.laws.ConversionLaws.{conversion_storable}
use Rattle.ferruntzo.specs.definitions.Conversions.{area_series}
use Rattle.ferruntzo.proofs.Answering.{outcome_storable, operation_in_area, short_operation}
use Rattle.ferruntzo.proofs.conversions.ferruntzo_from_series.Goals as goal

pub answer_operation-requires : goal.answer_operation-requires
answer_operation-requires c = let i = c.from_series in outcome_storable i.result i.ensures.result_value (conversion_storable _)

pub returns-then-series-out-clause-series_allowed : goal.returns-then-series-out-clause-series_allowed
returns-then-series-out-clause-series_allowed c =
    let a = c.args in
    operation_in_area (SeriesAllowed (area_series a.series.now)) c.from_series.result (search rules) (search rules)
    a.out.now (search rules) c.answer_operation.ensures

pub returns-else-series-out-clause-series_allowed : goal.returns-else-series-out-clause-series_allowed
returns-else-series-out-clause-series_allowed c = short_operation c.args.out.now c.answer_operation-else-series-out.ensures
