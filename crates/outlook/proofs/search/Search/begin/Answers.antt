use Rattle.std.proofs.Common.{refl}
use Rattle.outlook.proofs.Beginning.{begin_ok, blank, zeros}
use Rattle.outlook.proofs.Showing.{unused, begin_shows}
use Rattle.outlook.proofs.search.Search.begin.Goals as goal

pub returns-clause-goes : goal.returns-clause-goes
returns-clause-goes c =
    λ w good. (
      unused,
      begin_shows _ refl refl refl c.new.ensures c.new-2.ensures refl,
      begin_ok w good unused (record { keepable = refl; breakable = refl; seen = refl; cursor = refl; path = refl; place = refl; resume = refl; bounds = refl }) blank blank blank zeros refl refl refl,
    )
