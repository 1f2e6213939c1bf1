-- The router's rows.
use Rattle.std.specs.Prelude.{[], ◌∷◌, ◌++◌, codes}
use Rattle.matchit.specs.Rows.{RowsOf, param_token}
use Rattle.matchit.specs.Router.{RouteOf}
use Rattle.statistics_api.specs.declared.routes.Route.{Route}
use Rattle.statistics_api.specs.declared.routes.Route.TheVariants.{Queues, Queue, Rows, Alarms}

-- a route as the router keeps it: its tokens, its text, where the names of its parameters stand in that
abbrev pub route_row : Route → RouteOf Route
route_row Queues = record { pattern = codes "/statistics/queues"; text = codes "/statistics/queues"; names = []; value = Queues }
route_row Queue = record { pattern = codes "/statistics/queues/" ++ param_token ∷ []; text = codes "/statistics/queues/{name}"; names = (20, 24) ∷ []; value = Queue }
route_row Rows = record { pattern = codes "/statistics/queues/" ++ (param_token ∷ codes "/rows"); text = codes "/statistics/queues/{name}/rows"; names = (20, 24) ∷ []; value = Rows }
route_row Alarms = record { pattern = codes "/statistics/queues/" ++ (param_token ∷ codes "/alarms"); text = codes "/statistics/queues/{name}/alarms"; names = (20, 24) ∷ []; value = Alarms }

-- the four routes, in the router's order
abbrev pub router_rows : RowsOf (RouteOf Route)
router_rows =
    ((route_row Alarms).pattern, route_row Alarms) ∷ ((route_row Rows).pattern, route_row Rows)
    ∷ ((route_row Queue).pattern, route_row Queue) ∷ ((route_row Queues).pattern, route_row Queues) ∷ []
