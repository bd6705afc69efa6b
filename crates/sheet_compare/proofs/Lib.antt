-- Names and regions as they are walked: Lists, Standing, Order. That the list is exact: Exact, Promise. The answer: Comparing, Laws.
pub mod Lists
pub mod Standing
pub mod Order
pub mod Exact
pub mod Promise
pub mod Comparing
pub mod Laws
