pub mod HoursPromises
