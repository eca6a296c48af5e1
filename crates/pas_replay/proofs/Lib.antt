mod Common
mod Turning
mod ByActors
mod InOrder
mod PlansOfOne
