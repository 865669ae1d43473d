-- `table::expansion_table` meets its contract: the printed table passes the test (TableTest.antt), which antt computes.
use Rattle.chebyshev.specs.definitions.Coefficients.{add_lists, scale_list}
use Rattle.chebyshev.specs.definitions.Neighbours.{neighbour_sums}
use Rattle.series.proofs.TableTest.{table_is}
use Rattle.series.proofs.table.expansion_table.Goals as goal

pub returns : goal.returns
unfolding neighbour_sums add_lists scale_list
returns c = table_is _ tt
